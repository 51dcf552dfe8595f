-- What a template binds has the shape of its name.
use Rattle.std.proofs.Common.{◌≡◌, ◌==◌}
use Rattle.std.proofs.lemmas.Bool.{eqb-true}
use Rattle.std.proofs.lemmas.Option.{same_Some}
use Rattle.epl_tree.specs.declared.event.Mode.{Mode}
use Rattle.epl_tree.specs.declared.event.Mode.TheVariants as mode
use Rattle.epl_values.specs.declared.shape.Shape.TheVariants as shape
use Rattle.epl_values.specs.declared.value.Pair.{Pair}
use Rattle.epl_values.specs.declared.value.Value.TheOpen as value
use Rattle.term_meaning.specs.declared.stimulus.Stimulus.TheVariants as stimulus
use Rattle.term_meaning.specs.Patterns as pattern
use Rattle.term_meaning.specs.Patterns.{binds_of}
use Rattle.term_meaning.specs.Spans.{spans_fit}
use Rattle.term_meaning.specs.Step.{bound as bound_by, event_fits, heard, hears, leaf_fits}
use Rattle.term_shapes.specs.Kept.{is_template_of}
use Rattle.term_shapes.proofs.Common.{ℕ, List, Option, Some, None, [], true, refl, subst, sym, and_parts, All-nil, All-cons, EventShape, Value, Value-F, out-Value, Local, TemplateShape, Leaf, Stimulus, Fit, IsEvent, Pattern, BindingFits, CompletionFits, HeardFits}
use Rattle.term_shapes.proofs.Binding.{AllBind, BindsShape}

module _ (types : List EventShape) where
  -- an event that a template hears is one of its type's shapes
  heard_fits : (m : Mode) (s : Stimulus) (e : Value) → HeardFits types s → heard m s ≡ Some e → IsEvent types e (out-Value e)
  heard_fits mode.Ordinary (stimulus.Event v) e f is = subst (λ (x : Value). IsEvent types x (out-Value x)) (same_Some v e is) f
  heard_fits mode.Unmatched (stimulus.Unmatched v) e f is = subst (λ (x : Value). IsEvent types x (out-Value x)) (same_Some v e is) f
  heard_fits mode.Completed (stimulus.Completed v) e f is = subst (λ (x : Value). IsEvent types x (out-Value x)) (same_Some v e is) f
  heard_fits m s e f is = cc

  -- one that fits a leaf is of its type
  event_shape : (leaf : Leaf) (e : Value) (l : Value-F Value Pair) → event_fits leaf l ≡ true → IsEvent types e l → Fit types e (shape.Event leaf.event)
  event_shape leaf e (value.Event n fields) h f = subst (λ (m : ℕ). Fit types e (shape.Event m)) (sym (eqb-true leaf.event n (and_parts (leaf.event == n) (spans_fit leaf.spans fields) h).0)) f
  event_shape leaf e l h f = absurd f

  module _ (bound : List Local) where
    -- what is bound by a name that is there
    binding_fits : (leaf : Leaf) (t : TemplateShape) (n : ℕ) (e : Value) → leaf.event ≡ t.event → BindsShape bound t → t.binds ≡ Some n → Fit types e (shape.Event leaf.event) → BindingFits types bound (record { local = n; event = e })
    binding_fits leaf t n e is binds named f local at = subst (Fit types e) (binds.name n named local at) (subst (λ (m : ℕ). Fit types e (shape.Event m)) is f)

    -- what a completion of a template binds
    completion_fits : (leaf : Leaf) (t : TemplateShape) (s : Stimulus) (name : Option ℕ) (o : Option Value) → leaf.event ≡ t.event → BindsShape bound t → t.binds ≡ name → heard leaf.mode s ≡ o → HeardFits types s → leaf_fits leaf o ≡ true → CompletionFits types bound (bound_by name o)
    completion_fits leaf t s None o is binds named there f fits = All-nil (BindingFits types bound)
    completion_fits leaf t s (Some n) None is binds named there f fits = All-nil (BindingFits types bound)
    completion_fits leaf t s (Some n) (Some e) is binds named there f fits =
        All-cons (BindingFits types bound) (record { local = n; event = e }) [] (binding_fits leaf t n e is binds named (event_shape leaf e (out-Value e) fits (heard_fits leaf.mode s e f there))) (All-nil (BindingFits types bound))

    -- the leaf of a template that hears
    pub heard_binds : (p : Pattern) (leaf : Leaf) (s : Stimulus) → is_template_of leaf p ≡ true → AllBind bound p → HeardFits types s → hears s leaf ≡ true → CompletionFits types bound (bound_by (binds_of p) (heard leaf.mode s))
    unfolding hears binds_of
    heard_binds (pattern.Template t) leaf s is binds f fits = completion_fits leaf t s t.binds (heard leaf.mode s) (eqb-true leaf.event t.event is) binds refl refl f fits
    heard_binds p leaf s is binds f fits = cc
