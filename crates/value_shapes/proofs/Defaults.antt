-- The defaults of shapes that stand in a typed program fit them.
use Rattle.value_shapes.proofs.Common.{ℕ, zero, suc, List, [], length, map, Bool, true, refl, sym, ap, ◌∙◌, subst, list_all, and_parts, Shape, Shape-F, out-Shape, roll-Shape, map-Shape, fold-roll-Shape, ind-Shape, EventShape, Value, fields_of, AreOrderly, all_joined, Fit, AllFit}
use Rattle.std.proofs.Common.{◌≡◌, ◌∷◌, ◌<◌, flat_map, ◌&&◌, not}
use Rattle.std.specs.List.{slice_get}
use Rattle.std.proofs.lemmas.Bool.{ltb-true}
use Rattle.epl_values.specs.declared.shape.Shape.{fold-Shape, fold_out-Shape}
use Rattle.epl_values.specs.declared.shape.Shape.TheOpen as layer
use Rattle.epl_values.specs.declared.shape.Field.{Field}
use Rattle.typed_program.specs.declared.program.Program.{Program}
use Rattle.typed_program.specs.Shapes.{Standing, holds_link, standing_step, stands}
use Rattle.typed_program.specs.Typed.{Typed}
use Rattle.value_rules.specs.Defaults.{default_by, default_event, default_of, default_step}
use Rattle.event_types.specs.Types.{AreTypes, Form, HasKnownFields, form_of, form_step, types_in}
use Rattle.value_rules.proofs.Defaulted.{default_has}
use Rattle.value_steps.specs.Orderly.{IsOrderly}
use Rattle.value_steps.proofs.Called.{dictionary_orderly, event_orderly, integer_orderly, listener_orderly, none_orderly, sequence_orderly, text_orderly, truth_orderly}
use Rattle.value_shapes.proofs.Lists.{fit_cons, fit_nil}

-- ---- order

step_orderly : (event : ℕ → Value) → ((n : ℕ) → IsOrderly (event n)) → (d : Shape-F Value) → IsOrderly (default_step event d)
step_orderly event h layer.Integer = integer_orderly _
step_orderly event h layer.Boolean = truth_orderly _
step_orderly event h layer.Text = text_orderly _
step_orderly event h (layer.Sequence element) = sequence_orderly [] tt
step_orderly event h (layer.Dictionary key item) = dictionary_orderly [] tt tt
step_orderly event h (layer.Event n) = h n
step_orderly event h layer.Context = none_orderly
step_orderly event h layer.Listener = listener_orderly _

by_orderly : (event : ℕ → Value) → ((n : ℕ) → IsOrderly (event n)) → (s : Shape) → IsOrderly (default_by event s)
by_orderly event h s = subst IsOrderly (sym (fold_out-Shape Value (default_step event) s)) (step_orderly event h (map-Shape Shape Value (default_by event) (out-Shape s)))

fields_orderly : (event : ℕ → Value) → ((n : ℕ) → IsOrderly (event n)) → (fields : List Field) → AreOrderly (map (λ field. default_by event field.shape) fields)
fields_orderly event h [] = tt
fields_orderly event h (f ∷ fs) = (by_orderly event h f.shape, fields_orderly event h fs)

event_default_orderly : (depth : ℕ) (types : List EventShape) (n : ℕ) → IsOrderly (default_event depth types n)
event_default_orderly zero types n = event_orderly n [] tt
event_default_orderly (suc depth) types n = event_orderly n (map (λ field. default_by (default_event depth types) field.shape) (fields_of (slice_get types n))) (fields_orderly (default_event depth types) (event_default_orderly depth types) (fields_of (slice_get types n)))

-- a default has no entries
pub default_orderly : (types : List EventShape) (s : Shape) → IsOrderly (default_of types s)
default_orderly types s = by_orderly (default_event (length types) types) (event_default_orderly (length types) types) s

-- ---- the types that stand in shapes

module _ (types : List EventShape) where
  abbrev standing : Shape → Standing
  standing = fold-Shape Standing (standing_step types)

  abbrev Knows : Shape → Type 0
  Knows s = stands types s ≡ true → AreTypes types (types_in (form_of s))

  abbrev Known : Type 0
  Known = (s : Shape) × Knows s

  abbrev shapes_in : Shape-F Known → Shape-F Shape
  shapes_in y = map-Shape Known Shape (λ e. e.0) y

  layer_known : (y : Shape-F Known) → (standing_step types (map-Shape Shape Standing standing (shapes_in y))).stands ≡ true → AreTypes types (types_in (form_step (map-Shape Shape Form form_of (shapes_in y))))
  layer_known layer.Integer h = tt
  layer_known layer.Boolean h = tt
  layer_known layer.Text h = tt
  layer_known (layer.Sequence item) h = item.1 h
  layer_known (layer.Dictionary key item) h =
      let b = and_parts ((standing key.0).scalar && stands types key.0) (stands types item.0) h in
      all_joined (λ n. n < length types) (types_in (form_of key.0)) (types_in (form_of item.0)) (key.1 (and_parts (standing key.0).scalar (stands types key.0) b.0).1) (item.1 b.1)
  layer_known (layer.Event n) h = (ltb-true n (length types) h, tt)
  layer_known layer.Context h = tt
  layer_known layer.Listener h = tt

  known_case : (x : Shape-F Shape) (y : Shape-F Known) → shapes_in y ≡ x → Knows (roll-Shape x)
  known_case x y is = subst (λ (z : Shape-F Shape). Knows (roll-Shape z)) is (λ h.
      subst (λ (f : Form). AreTypes types (types_in f)) (sym (fold-roll-Shape Form form_step (shapes_in y)))
      (layer_known y (sym (ap (λ (w : Standing). w.stands) (fold-roll-Shape Standing (standing_step types) (shapes_in y))) ∙ h)))

  -- each event type in a shape that stands is there
  pub stands_known : (s : Shape) → stands types s ≡ true → AreTypes types (types_in (form_of s))
  stands_known = ind-Shape Knows known_case

  abbrev field_so : Field → Bool
  field_so f = stands types f.shape && not (holds_link f.shape)

  fields_known : (fields : List Field) → list_all field_so fields ≡ true → AreTypes types (flat_map (λ f. types_in (form_of f.shape)) fields)
  fields_known [] h = tt
  fields_known (f ∷ fs) h =
      let b = and_parts (field_so f) (list_all field_so fs) h in
      all_joined (λ n. n < length types) (types_in (form_of f.shape)) (flat_map (λ g. types_in (form_of g.shape)) fs)
      (stands_known f.shape (and_parts (stands types f.shape) (not (holds_link f.shape)) b.0).0) (fields_known fs b.1)

  at_fields : (events : List EventShape) (n : ℕ) → list_all (λ event. list_all field_so event.fields) events ≡ true → list_all field_so (fields_of (slice_get events n)) ≡ true
  at_fields [] n h = refl
  at_fields (e ∷ es) zero h = (and_parts (list_all field_so e.fields) (list_all (λ event. list_all field_so event.fields) es) h).0
  at_fields (e ∷ es) (suc n) h = at_fields es n (and_parts (list_all field_so e.fields) (list_all (λ event. list_all field_so event.fields) es) h).1

-- the event types that fields name are there
pub known_fields : (program : Program) → Typed program → HasKnownFields program.types
known_fields program typed n = fields_known program.types (fields_of (slice_get program.types n)) (at_fields program.types program.types n typed.shapes.types)

-- ---- defaults

module _ (program : Program) (typed : Typed program) where
  pub default_fits : (s : Shape) → stands program.types s ≡ true → Fit program.types (default_of program.types s) s
  default_fits s h = record {
    has = default_has program.types s (known_fields program typed) typed.no_cycle (stands_known program.types s h);
    order = default_orderly program.types s;
  }

  -- the same of several shapes
  pub defaults_fit : (shapes : List Shape) → list_all (stands program.types) shapes ≡ true → AllFit program.types (map (default_of program.types) shapes) shapes
  defaults_fit [] h = fit_nil program.types
  defaults_fit (s ∷ ss) h =
      let b = and_parts (stands program.types s) (list_all (stands program.types) ss) h in
      fit_cons program.types (default_of program.types s) (map (default_of program.types) ss) s ss (default_fits s b.0) (defaults_fit ss b.1)
