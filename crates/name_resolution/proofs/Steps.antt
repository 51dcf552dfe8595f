-- Fields, elements and methods behind a value.
use Rattle.std.proofs.Common.{◌≡◌, ℕ, zero, suc, min, Bool, false, List, [], ◌∷◌, ◌++◌, map, length, slice_get, Option, Some, None, refl, subst, sym, ap, ◌∙◌}
use Rattle.std.specs.List.{AllByRecursion}
use Rattle.span_text.specs.declared.spot.Spot.{Spot}
use Rattle.epl_values.specs.declared.shape.EventShape.{EventShape}
use Rattle.epl_values.specs.declared.shape.Field.{Field}
use Rattle.epl_values.specs.declared.shape.Shape.{Shape, Shape-F, out-Shape}
use Rattle.epl_values.specs.declared.shape.Shape.TheOpen as layer
use Rattle.epl_tree.specs.declared.expression.Expr.{Expr}
use Rattle.epl_tree.specs.declared.expression.ExprNode.TheOpen as tree
use Rattle.epl_tree.specs.declared.expression.Suffix.{Suffix}
use Rattle.typed_program.specs.declared.expression.Method.{Method}
use Rattle.typed_program.specs.declared.expression.TypedEntry.{TypedEntry}
use Rattle.typed_program.specs.declared.expression.TypedExpr.{TypedExpr, roll-TypedExpr}
use Rattle.typed_program.specs.declared.expression.TypedLink.{TypedLink}
use Rattle.typed_program.specs.declared.expression.TypedNode.{TypedNode}
use Rattle.typed_program.specs.declared.expression.TypedNode.TheOpen as typed
use Rattle.typed_program.specs.declared.expression.TypedNode.TheVariants as made
use Rattle.typed_program.specs.declared.expression.TypedSuffix.{TypedSuffix, TypedSuffix-F, roll-TypedSuffix, out-TypedSuffix, out-roll-TypedSuffix}
use Rattle.typed_program.specs.declared.expression.TypedSuffixNode.{TypedSuffixNode, out-TypedSuffixNode}
use Rattle.typed_program.specs.declared.expression.TypedSuffixNode.TheVariants as suffix
use Rattle.type_table.specs.declared.table.Table.{Table}
use Rattle.expr_rules.specs.declared.calls.Arguments.{Arguments}
use Rattle.expr_rules.specs.declared.methods.MethodCall.{MethodCall}
use Rattle.expr_rules.specs.declared.methods.Reach.{Reach}
use Rattle.expr_rules.specs.declared.placed.Judged.{Judged}
use Rattle.expr_rules.specs.declared.placed.Root.{Root}
use Rattle.expr_rules.specs.declared.steps.StepKind.{StepKind}
use Rattle.expr_rules.specs.declared.steps.Walk.{Walk}
use Rattle.expr_rules.specs.Asked.{Demand, plain}
use Rattle.expr_rules.specs.Calls.{arguments_found, fields_at}
use Rattle.expr_rules.specs.Methods.{method_named, signature_of, unknown_call, called_by, called_on, called_of, method_reach}
use Rattle.expr_rules.specs.Operators.{Part}
use Rattle.expr_rules.specs.Places.{placed, shape_given}
use Rattle.expr_rules.specs.Postfix.{Step, demand_before, walk_start, walked, reached, field_reach, field_at, place_of, field_named, field_in, field_of, field_found, index_wish, element_reach_layer, element_reach, unknown_element, near, element_stands, element_step, index_found, method_stands, called_found, method_found, step_found, postfix_of, walked_from, postfix_rest, postfix_found}
use Rattle.expr_rules.specs.Then.{through}
use Rattle.name_resolution.specs.Names.{Named, Around, written}
use Rattle.name_resolution.specs.Names.{field_named as numbered}
use Rattle.name_resolution.specs.Expressions.{Form, TypedForm, TypedStep, form_of, step_of, typed_step, shape_of, ExprIs, ExprsAre, StepIs, StepsAre}
use Rattle.name_resolution.specs.Expressions.{Step as StepForm}
use Rattle.name_resolution.specs.Expressions as rule
use Rattle.name_resolution.proofs.Sure.{Sure, sure_sound, sure_then, sure_any, sure_as}
use Rattle.name_resolution.proofs.Through.{append_none, regroup}
use Rattle.name_resolution.proofs.MethodsRead.{Calls, signature_calls, method_is}
use Rattle.name_resolution.proofs.Judging.{placed_both, Judges, Reads, Is, plain_at, form_made, judges}
use Rattle.name_resolution.proofs.Values.{AreRead, arguments_are}

module _ (around : Around) (names : List Named) where
  -- one step more
  pub record Stepped (u : StepForm) (walk next : Walk) : Type 0 where
    pub item : TypedSuffix
    pub behind : next.suffixes ≡ walk.suffixes ++ item ∷ []
    pub good : StepIs around names walk.shape u (typed_step item) (out-TypedSuffix item).shape
    pub shape : (out-TypedSuffix item).shape ≡ next.shape
    pub first : next.first ≡ walk.first

  pub record StepReads (u : StepForm) (step : Step) : Type 0 where
    pub at : (spot : Spot) (demand : Demand) (walk : Walk) → Sure (Stepped u walk) (step.found spot demand walk)

  -- what a step comes to, by the shape before it
  abbrev Reaches : Option Shape → StepForm → Reach → Type 0
  Reaches s u reach = reach.own ≡ None → (t : TypedStep) × (out-TypedSuffixNode reach.node ≡ t) × StepIs around names s u t (shape_given reach.given)

  reached_is : (u : StepForm) (spot : Spot) (d : Demand) (root : Option Root) (walk : Walk) (reach : Reach) → Reaches walk.shape u reach → Sure (Stepped u walk) (reached spot d root walk reach)
  reached_is u spot d root walk reach h =
      sure_then (λ s. (reach.own ≡ None) × (s ≡ shape_given reach.given)) (Stepped u walk) (placed spot d reach.own root reach.given) (walked walk root reach.node) (placed_both spot d reach.own root reach.given)
      (λ s both.
      let k = h both.0 in
      let out = out-roll-TypedSuffix (record { shape = s; node = reach.node }) in
      sure_sound (Stepped u walk) (record { first = walk.first; suffixes = walk.suffixes ++ roll-TypedSuffix record { shape = s; node = reach.node } ∷ []; shape = s; root = root }) (record {
        item = roll-TypedSuffix record { shape = s; node = reach.node };
        behind = refl;
        good = subst (λ (y : TypedSuffix-F TypedNode TypedSuffixNode TypedEntry TypedExpr TypedLink TypedSuffix). StepIs around names walk.shape u (out-TypedSuffixNode y.node) y.shape) (sym out) (subst (λ (t : TypedStep). StepIs around names walk.shape u t s) (sym k.1) (subst (λ (o : Option Shape). StepIs around names walk.shape u k.0 o) (sym both.1) k.2));
        shape = ap (λ (y : TypedSuffix-F TypedNode TypedSuffixNode TypedEntry TypedExpr TypedLink TypedSuffix). y.shape) out;
        first = refl;
      }))

  unknown_reaches : (u : StepForm) (reach : Reach) → Reaches None u reach
  unknown_reaches u reach none = (out-TypedSuffixNode reach.node, refl, rule.unshaped)

  -- ---- fields

  field_reaches : (name : List ℕ) (s : Shape) (t : ℕ) (event : EventShape) (n : ℕ) (o : Option Field) → out-Shape s ≡ layer.Event t → slice_get around.types t ≡ Some event → numbered event.fields name ≡ Some n → slice_get event.fields n ≡ o → Reaches (Some s) (tree.Field name) (field_reach n o)
  field_reaches name s t event n None is there at got none = absurd (cc)
  field_reaches name s t event n (Some f) is there at got none = (_, suffix.outs-Field (min 65535 n), rule.field is there at got)

  placed_field : (name : List ℕ) (s : Shape) (t : ℕ) (event : EventShape) (o : Option ℕ) → out-Shape s ≡ layer.Event t → slice_get around.types t ≡ Some event → place_of event.fields name ≡ o → Reaches (Some s) (tree.Field name) (field_at event.fields o)
  placed_field name s t event None is there at = λ none. absurd (cc)
  placed_field name s t event (Some n) is there at = field_reaches name s t event n (slice_get event.fields n) is there at refl

  no_field : (name : List ℕ) (s : Shape) (o : Option ℕ) → place_of [] name ≡ o → Reaches (Some s) (tree.Field name) (field_at [] o)
  no_field name s None at = λ none. absurd (cc)
  no_field name s (Some n) at = absurd (cc)

  event_field : (name : List ℕ) (s : Shape) (t : ℕ) (o : Option EventShape) → out-Shape s ≡ layer.Event t → slice_get around.types t ≡ o → Reaches (Some s) (tree.Field name) (field_named (fields_at o) name)
  event_field name s t None is there = no_field name s (place_of [] name) refl
  event_field name s t (Some event) is there = placed_field name s t event (place_of event.fields name) is there refl

  field_by : (table : Table) (name : List ℕ) (s : Shape) (l : Shape-F Shape) → table.types ≡ around.types → out-Shape s ≡ l → Reaches (Some s) (tree.Field name) (field_in table l name)
  field_by table name s (layer.Event t) types is = event_field name s t (slice_get table.types t) is (sym (ap (λ (ts : List EventShape). slice_get ts t) types))
  field_by table name s l types is = λ none. absurd (cc)

  field_reached : (table : Table) (name : List ℕ) (o : Option Shape) → table.types ≡ around.types → Reaches o (tree.Field name) (field_of table o name)
  unfolding field_of
  field_reached table name None types = unknown_reaches (tree.Field name) (field_of table None name)
  field_reached table name (Some s) types = field_by table name s (out-Shape s) types refl

  pub field_is : (table : Table) (name : List ℕ) (kind : StepKind) → table.types ≡ around.types → StepReads (tree.Field name) (record { kind = kind; found = field_found table name })
  field_is table name kind types = record { at = λ spot d walk. reached_is (tree.Field name) spot d walk.root walk (field_of table walk.shape name) (field_reached table name walk.shape types) }

  -- ---- elements

  element_by : (e : Expr) (x : TypedExpr) (s : Shape) (l : Shape-F Shape) → out-Shape s ≡ l → ExprIs around names e x → Reaches (Some s) (tree.Index e) (element_reach_layer l x)
  element_by e x s (layer.Sequence item) is h none = (_, suffix.outs-Item x, rule.item is h)
  element_by e x s (layer.Dictionary key value) is h none = (_, suffix.outs-Key x, rule.key is h)
  element_by e x s l is h none = absurd (cc)

  element_reached : (e : Expr) (x : TypedExpr) (o : Option Shape) → ExprIs around names e x → Reaches o (tree.Index e) (element_reach o x)
  unfolding element_reach
  element_reached e x None h = unknown_reaches (tree.Index e) (unknown_element None x)
  element_reached e x (Some s) h = element_by e x s (out-Shape s) refl h

  pub index_is : (e : Expr) (part : Part) (own : Spot) (kind : StepKind) → Reads around names (form_of e) part → StepReads (tree.Index e) (record { kind = kind; found = index_found part own })
  unfolding element_step
  index_is e part own kind r = record {
    at = λ spot d walk. sure_then (Is around names e) (Stepped (tree.Index e) walk) (part (plain (index_wish walk.shape))) (element_step own spot d walk) (plain_at around names e part (plain (index_wish walk.shape)) refl r)
        (λ j is. sure_then (λ root. Unit {0}) (Stepped (tree.Index e) walk) (near own d.changed walk.root) (element_stands spot d walk j) (sure_any (near own d.changed walk.root))
        (λ root u. reached_is (tree.Index e) spot d root walk (element_reach walk.shape j.typed) (element_reached e j.typed walk.shape is)));
  }

  -- ---- methods

  -- a call of a method, by the shape before it
  abbrev CallOf : Option Shape → List ℕ → MethodCall → Type 0
  CallOf s name call = (call.start.items ≡ []) × ((root : Option Root) (a : Arguments) (es : List Expr) → ExprsAre around names es a.items → Reaches s (tree.Method name es) (method_reach call.called root a))

  lost_call : (s : Option Shape) (name : List ℕ) → CallOf s name (unknown_call (Some 7))
  lost_call s name = (refl, λ root a es h none. absurd (cc))

  signed_call : (s : Option Shape) (name : List ℕ) (m : Method) (o : Option MethodCall) → name ≡ written m → Calls m o → CallOf s name (called_by o)
  signed_call s name m None is c = lost_call s name
  signed_call s name m (Some call) is c = (c.1, λ root a es h none. (_, suffix.outs-Method call.called.method a.items ∙ ap (λ (n : Method). typed.Method n a.items) c.0, rule.method is h))

  named_call : (s : Shape) (name : List ℕ) (o : Option Method) → method_named name ≡ o → CallOf (Some s) name (called_on s o)
  named_call s name None is = lost_call (Some s) name
  named_call s name (Some m) is = signed_call (Some s) name m (signature_of s m) (method_is name m is) (signature_calls s m)

  call_of : (o : Option Shape) (name : List ℕ) → CallOf o name (called_of o (method_named name))
  call_of None name = (refl, λ root a es h. unknown_reaches (tree.Method name es) (method_reach (unknown_call None).called root a))
  call_of (Some s) name = named_call s name (method_named name) refl

  called_is : (name : List ℕ) (es : List Expr) (part : Expr → Part) (spot : Spot) (d : Demand) (walk : Walk) (call : MethodCall) → CallOf walk.shape name call → AreRead around names part es → Sure (Stepped (tree.Method name es) walk) (called_found call (map part es) spot d walk)
  unfolding method_stands
  called_is name es part spot d walk call c all =
      sure_then (λ a. ExprsAre around names es a.items) (Stepped (tree.Method name es) walk) (arguments_found call.start (map part es)) (method_stands spot d walk call.called) (arguments_are around names es part call.start c.0 all)
      (λ a h. reached_is (tree.Method name es) spot d None walk (method_reach call.called walk.root a) (c.1 walk.root a es h))

  pub method_step_is : (name : List ℕ) (es : List Expr) (part : Expr → Part) (kind : StepKind) → AreRead around names part es → StepReads (tree.Method name es) (record { kind = kind; found = method_found name (map part es) })
  method_step_is name es part kind all = record { at = λ spot d walk. called_is name es part spot d walk (called_of walk.shape (method_named name)) (call_of walk.shape name) all }

  -- ---- steps in order

  pub record Walked (us : List Suffix) (walk next : Walk) : Type 0 where
    pub found : List TypedSuffix
    pub behind : next.suffixes ≡ walk.suffixes ++ found
    pub good : StepsAre around names walk.shape us found
    pub first : next.first ≡ walk.first

  abbrev pub StepsRead : (Suffix → Step) → List Suffix → Type 0
  StepsRead part us = AllByRecursion (λ u. StepReads (step_of u) (part u)) us

  walked_after : (u : Suffix) (us : List Suffix) (a b c : Walk) → Stepped (step_of u) a b → Walked us b c → Walked (u ∷ us) a c
  walked_after u us a b c s w = record {
    found = s.item ∷ w.found;
    behind = w.behind ∙ ap (λ (l : List TypedSuffix). l ++ w.found) s.behind ∙ regroup a.suffixes s.item w.found;
    good = rule.step s.good (subst (λ (o : Option Shape). StepsAre around names o us w.found) (sym s.shape) w.good);
    first = w.first ∙ s.first;
  }

  steps_go : (part : Suffix → Step) (spot : Spot) (changed : Bool) (d : Demand) (count : ℕ) (us : List Suffix) (walk : Walk) → StepsRead part us → Sure (Walked us walk) (through (step_found spot changed d count) walk (map part us))
  unfolding through
  steps_go part spot changed d count [] walk all = sure_sound (Walked [] walk) walk (record { found = []; behind = sym (append_none walk.suffixes); good = rule.no_steps; first = refl })
  steps_go part spot changed d count (u ∷ us) walk all =
      sure_then (Stepped (step_of u) walk) (Walked (u ∷ us) walk) (step_found spot changed d count walk (part u)) (λ next. through (step_found spot changed d count) next (map part us)) (all.0.at spot _ walk)
      (λ next s. sure_as (Walked us next) (Walked (u ∷ us) walk) (through (step_found spot changed d count) next (map part us)) (λ last w. walked_after u us walk next last s w) (steps_go part spot changed d count us next all.1))

  pub walked_is : (part : Suffix → Step) (spot : Spot) (changed : Bool) (d : Demand) (us : List Suffix) (j : Judged) → StepsRead part us → Sure (Walked us (walk_start j)) (walked_from spot changed d (map part us) j)
  unfolding walked_from
  walked_is part spot changed d us j all = steps_go part spot changed d (length (map part us)) us (walk_start j) all

  pub before_plain : (changed : Bool) (d : Demand) (n : ℕ) → (demand_before changed d n).signed ≡ false
  before_plain changed d zero = refl
  before_plain changed d (suc n) = refl

  postfix_made : (e : Expr) (us : List Suffix) (j : Judged) (walk : Walk) → ExprIs around names e j.typed → Walked us (walk_start j) walk → StepsAre around names (shape_of walk.first) us walk.suffixes × ExprIs around names e walk.first
  postfix_made e us j walk h w = (
    subst (λ (x : TypedExpr). StepsAre around names (shape_of x) us walk.suffixes) (sym w.first) (subst (λ (ys : List TypedSuffix). StepsAre around names (shape_of j.typed) us ys) (sym w.behind) w.good),
    subst (λ (x : TypedExpr). ExprIs around names e x) (sym w.first) h,
  )

  pub postfix_is : (changed : Demand → Bool) (e : Expr) (us : List Suffix) (first : Part) (part : Suffix → Step) (spot : Spot) → Reads around names (form_of e) first → StepsRead part us → Reads around names (tree.Postfix e us) (λ d. postfix_found (changed d) first (map part us) spot d)
  unfolding postfix_rest postfix_of
  postfix_is changed e us first part spot r all = record {
    at = λ d.
        let steps = map part us in
        let before = demand_before (changed d) d (length steps) in
        sure_then (Is around names e) (Judges around names (tree.Postfix e us) d.signed) (first before) (postfix_rest (changed d) steps spot d) (plain_at around names e first before (before_plain (changed d) d (length steps)) r)
        (λ j is. sure_then (Walked us (walk_start j)) (Judges around names (tree.Postfix e us) d.signed) (walked_from spot (changed d) d steps j) postfix_of (walked_is part spot (changed d) d us j all)
        (λ walk w.
        let m = postfix_made e us j walk is w in
        sure_sound (Judges around names (tree.Postfix e us) d.signed) (record { typed = roll-TypedExpr record { shape = walk.shape; node = made.Postfix walk.first walk.suffixes }; root = walk.root; signed = false })
        (judges around names (tree.Postfix e us) d.signed (roll-TypedExpr record { shape = walk.shape; node = made.Postfix walk.first walk.suffixes }) walk.root (form_made around names (tree.Postfix e us) walk.shape (made.Postfix walk.first walk.suffixes) (typed.Postfix walk.first walk.suffixes) (made.outs-Postfix walk.first walk.suffixes) (rule.postfix m.1 m.0)))));
  }
