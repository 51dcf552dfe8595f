-- The event types of typed programs have texts: no field holds a context or a listener.
use Rattle.std.proofs.Common.{◌≡◌, List, [], ◌∷◌, Bool, true, false, ◌&&◌, ◌||◌, not, refl, sym, ◌∙◌, subst}
use Rattle.std.specs.List.{AllByRecursion, list_all}
use Rattle.std.proofs.lemmas.Bool.{and_parts, not-true}
use Rattle.epl_values.specs.declared.shape.Shape.{Shape, Shape-F, roll-Shape, map-Shape, fold-roll-Shape, ind-Shape}
use Rattle.epl_values.specs.declared.shape.Shape.TheOpen as layer
use Rattle.epl_values.specs.declared.shape.Field.{Field}
use Rattle.epl_values.specs.declared.shape.EventShape.{EventShape}
use Rattle.event_types.specs.Types.{Form, form_step, form_of}
use Rattle.evt_text.specs.Readable.{HasText, HaveTexts}
use Rattle.typed_program.specs.declared.program.Program.{Program}
use Rattle.typed_program.specs.Shapes.{holds_link, meets_step, stands}
use Rattle.typed_program.specs.Typed.{Typed}

neither : (a b : Bool) → (a || b) ≡ false → (a ≡ false) × (b ≡ false)
neither true b h = cc
neither false b h = (refl, h)

-- ---- shapes

abbrev Texts : Shape → Type 0
Texts s = holds_link s ≡ false → HasText (form_of s)

abbrev Known : Type 0
Known = (s : Shape) × Texts s

abbrev shapes_in : Shape-F Known → Shape-F Shape
shapes_in y = map-Shape Known Shape (λ e. e.0) y

layer_texts : (y : Shape-F Known) → meets_step true (λ n. false) (map-Shape Shape Bool holds_link (shapes_in y)) ≡ false → HasText (form_step (map-Shape Shape Form form_of (shapes_in y)))
layer_texts layer.Integer h = tt
layer_texts layer.Boolean h = tt
layer_texts layer.Text h = tt
layer_texts (layer.Sequence item) h = item.1 h
layer_texts (layer.Dictionary key item) h = let b = neither (holds_link key.0) (holds_link item.0) h in (key.1 b.0, item.1 b.1)
layer_texts (layer.Event n) h = tt
layer_texts layer.Context h = cc
layer_texts layer.Listener h = cc

texts_case : (x : Shape-F Shape) (y : Shape-F Known) → shapes_in y ≡ x → Texts (roll-Shape x)
texts_case x y is = subst (λ (z : Shape-F Shape). Texts (roll-Shape z)) is (λ h.
    subst HasText (sym (fold-roll-Shape Form form_step (shapes_in y)))
    (layer_texts y (sym (fold-roll-Shape Bool (meets_step true (λ n. false)) (shapes_in y)) ∙ h)))

-- a shape that holds no context and no listener has a text
has_text : (s : Shape) → holds_link s ≡ false → HasText (form_of s)
has_text = ind-Shape Texts texts_case

-- ---- event types

module _ (types : List EventShape) where
  abbrev field_so : Field → Bool
  field_so f = stands types f.shape && not (holds_link f.shape)

  fields_texts : (fields : List Field) → list_all field_so fields ≡ true → AllByRecursion (λ (f : Field). HasText (form_of f.shape)) fields
  fields_texts [] h = tt
  fields_texts (f ∷ fs) h =
      let b = and_parts (field_so f) (list_all field_so fs) h in
      (has_text f.shape (not-true (holds_link f.shape) (and_parts (stands types f.shape) (not (holds_link f.shape)) b.0).1), fields_texts fs b.1)

  events_texts : (events : List EventShape) → list_all (λ (event : EventShape). list_all field_so event.fields) events ≡ true → HaveTexts events
  events_texts [] h = tt
  events_texts (e ∷ es) h =
      let b = and_parts (list_all field_so e.fields) (list_all (λ (event : EventShape). list_all field_so event.fields) es) h in
      (fields_texts e.fields b.0, events_texts es b.1)

pub have_texts : (program : Program) → Typed program → HaveTexts program.types
have_texts program typed = events_texts program.types program.types typed.shapes.types
