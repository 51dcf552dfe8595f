-- A part of a value fits the shape that its step leads to, and the value keeps its shape with another such part.
use Rattle.std.proofs.Common.{◌≡◌, ◌∷◌}
use Rattle.value_shapes.proofs.Common.{ℕ, ℤ, List, [], map, Bool, true, false, Option, Some, None, Ok, refl, sym, ◌∙◌, subst, slice_get, Shape, Shape-F, out-Shape, roll-Shape, roll-out-Shape, EventShape, Value, Value-F, out-Value, Pair, KeysAscend, Fault, Move, natural, at_key, is_key, part, part_in, with_entry, with_part, with_part_in, fields_of, all_get, all_set, Fit, StepsTo}
use Rattle.std.specs.Prelude.{slice_set}
use Rattle.std.specs.Option.{option_and_then}
use Rattle.epl_values.specs.declared.shape.Shape.TheOpen as shape_layer
use Rattle.epl_values.specs.declared.shape.Shape.TheVariants as shape
use Rattle.epl_values.specs.declared.value.Value.TheOpen as layer
use Rattle.epl_values.specs.declared.value.Value.TheVariants as value
use Rattle.body_meaning.specs.declared.run.Move.TheVariants as move
use Rattle.body_meaning.specs.Paths.{entry_value, or_fault, set_at}
use Rattle.value_shapes.proofs.Entries.{entry_fits}
use Rattle.value_shapes.proofs.Layers.{EachFit, EntriesFit, EntryFit, LayerFits, dictionary_layer, event_known, event_layer, event_number, fit_out, fit_rolled, sequence_layer}
use Rattle.value_shapes.proofs.Lists.{fit_at, fit_set}
use Rattle.value_shapes.proofs.Made.{dictionary_made, event_made, sequence_made}

or_ok : {A : Type 0} (e : Fault) (o : Option A) (x : A) → or_fault e o ≡ Ok x → o ≡ Some x
or_ok e None x h = cc
or_ok e (Some y) x h = cc

module _ (types : List EventShape) where
  place_fits : (items : List Value) (n : Option ℕ) (x : Value) (element : Shape) → EachFit types element items → option_and_then (slice_get items) n ≡ Some x → Fit types x element
  place_fits items None x element a h = cc
  place_fits items (Some n) x element a h = all_get (λ v. Fit types v element) items n x a h

  found_step : (key x : Value) (p : Pair) (ps : List Pair) (k item : Shape) (b : Bool) → is_key key p ≡ b → EntryFit types k item p → (at_key key ps ≡ Some x → Fit types x item) → at_key key (p ∷ ps) ≡ Some x → Fit types x item
  found_step key x p ps k item true e a more h =
      let here : Some (entry_value p) ≡ Some x = sym (rw e refl) ∙ h in
      let same : entry_value p ≡ x = cc in
      subst (λ v. Fit types v item) same a.1
  found_step key x p ps k item false e a more h = let there : at_key key ps ≡ Some x = sym (rw e refl) ∙ h in more there

  -- the value at a key
  pub found_fits : (key x : Value) (ps : List Pair) (k item : Shape) → EntriesFit types k item ps → at_key key ps ≡ Some x → Fit types x item
  found_fits key x [] k item a h = cc
  found_fits key x (p ∷ ps) k item a h = found_step key x p ps k item (is_key key p) refl a.0 (found_fits key x ps k item a.1) h

  -- ---- reading

  field_part : (i n : ℕ) (l : Value-F Value Pair) (w : Value) (t : Shape) → LayerFits types l (shape_layer.Event n) → slice_get (map (λ f. f.shape) (fields_of (slice_get types n))) i ≡ Some t → part_in (move.Field i) l ≡ Ok w → Fit types w t
  field_part i n (layer.Event e fields) w t f st h = fit_at types fields (map (λ g. g.shape) (fields_of (slice_get types n))) i w t (event_layer types e n fields f) (or_ok _ (slice_get fields i) w h) st
  field_part i n l w t f st h = cc

  item_part : (at : ℤ) (element : Shape) (l : Value-F Value Pair) (w : Value) → LayerFits types l (shape_layer.Sequence element) → part_in (move.Item at) l ≡ Ok w → Fit types w element
  item_part at element (layer.Sequence items) w f h = place_fits items (natural at) w element (sequence_layer types items element f) (or_ok _ _ w h)
  item_part at element l w f h = cc

  key_part : (key : Value) (k item : Shape) (l : Value-F Value Pair) (w : Value) → LayerFits types l (shape_layer.Dictionary k item) → part_in (move.Key key) l ≡ Ok w → Fit types w item
  key_part key k item (layer.Dictionary pairs) w f h = found_fits key w pairs k item (dictionary_layer types pairs k item f) (or_ok _ (at_key key pairs) w h)
  key_part key k item l w f h = cc

  layer_part : (m : Move) (d : Shape-F Shape) (l : Value-F Value Pair) (w : Value) (t : Shape) → LayerFits types l d → StepsTo types m d t → part_in m l ≡ Ok w → Fit types w t
  layer_part (move.Field i) (shape_layer.Event n) l w t f st h = field_part i n l w t f st h
  layer_part (move.Item at) (shape_layer.Sequence element) l w t f st h = subst (Fit types w) st (item_part at element l w f h)
  layer_part (move.Key key) (shape_layer.Dictionary k item) l w t f st h = subst (Fit types w) st.1 (key_part key k item l w f h)
  layer_part m d l w t f st h = absurd st

  -- a part fits the shape that the step leads to
  pub part_fits : (m : Move) (v w : Value) (s t : Shape) → Fit types v s → StepsTo types m (out-Shape s) t → part m v ≡ Ok w → Fit types w t
  part_fits m v w s t f st h = layer_part m (out-Shape s) (out-Value v) w t (fit_out types v s f) st h

  -- ---- putting back

  set_fits : (items : List Value) (n : Option ℕ) (x : Value) (element : Shape) → EachFit types element items → Fit types x element → EachFit types element (set_at items n x)
  set_fits items None x element a f = a
  set_fits items (Some n) x element a f = all_set (λ v. Fit types v element) items n x a f

  event_with : (i n e : ℕ) (fields : List Value) (x : Value) (t : Shape) → LayerFits types (layer.Event e fields) (shape_layer.Event n) → slice_get (map (λ f. f.shape) (fields_of (slice_get types n))) i ≡ Some t → Fit types x t → Fit types (value.Event e (slice_set fields i x)) (shape.Event n)
  event_with i n e fields x t f st h =
      let known = event_known types e n fields f in
      subst (λ k. Fit types (value.Event k (slice_set fields i x)) (shape.Event n)) (sym (event_number types e n fields f))
      (event_made types n (slice_set fields i x) known.0 (fit_set types fields (map (λ g. g.shape) (fields_of (slice_get types n))) i x t (event_layer types e n fields f) st h) known.1)

  field_with : (i n : ℕ) (l : Value-F Value Pair) (x : Value) (t : Shape) → LayerFits types l (shape_layer.Event n) → slice_get (map (λ f. f.shape) (fields_of (slice_get types n))) i ≡ Some t → Fit types x t → Fit types (with_part_in (move.Field i) l x) (roll-Shape (shape_layer.Event n))
  field_with i n (layer.Event e fields) x t f st h = subst (Fit types (value.Event e (slice_set fields i x))) (sym (shape.rolls-Event n)) (event_with i n e fields x t f st h)
  field_with i n l x t f st h = fit_rolled types l (shape_layer.Event n) f

  item_with : (at : ℤ) (element : Shape) (l : Value-F Value Pair) (x : Value) → LayerFits types l (shape_layer.Sequence element) → Fit types x element → Fit types (with_part_in (move.Item at) l x) (roll-Shape (shape_layer.Sequence element))
  item_with at element (layer.Sequence items) x f h = subst (Fit types (value.Sequence (set_at items (natural at) x))) (sym (shape.rolls-Sequence element)) (sequence_made types (set_at items (natural at) x) element (set_fits items (natural at) x element (sequence_layer types items element f) h))
  item_with at element l x f h = fit_rolled types l (shape_layer.Sequence element) f

  -- entries with one more or a changed one make such a dictionary
  pub dictionary_with : (key x : Value) (pairs : List Pair) (k item : Shape) → EntriesFit types k item pairs → KeysAscend pairs → Fit types key k → Fit types x item → Fit types (value.Dictionary (with_entry key x pairs)) (shape.Dictionary k item)
  dictionary_with key x pairs k item a o fk fx = let made = entry_fits types key x pairs k item fk fx a o in dictionary_made types (with_entry key x pairs) k item made.0 made.1

  key_with : (key : Value) (k item : Shape) (l : Value-F Value Pair) (x : Value) → LayerFits types l (shape_layer.Dictionary k item) → Fit types key k → Fit types x item → Fit types (with_part_in (move.Key key) l x) (roll-Shape (shape_layer.Dictionary k item))
  key_with key k item (layer.Dictionary pairs) x f fk h = subst (Fit types (value.Dictionary (with_entry key x pairs))) (sym (shape.rolls-Dictionary k item)) (dictionary_with key x pairs k item (dictionary_layer types pairs k item f) f.keys fk h)
  key_with key k item l x f fk h = fit_rolled types l (shape_layer.Dictionary k item) f

  layer_with : (m : Move) (d : Shape-F Shape) (l : Value-F Value Pair) (x : Value) (t : Shape) → LayerFits types l d → StepsTo types m d t → Fit types x t → Fit types (with_part_in m l x) (roll-Shape d)
  layer_with (move.Field i) (shape_layer.Event n) l x t f st h = field_with i n l x t f st h
  layer_with (move.Item at) (shape_layer.Sequence element) l x t f st h = item_with at element l x f (subst (Fit types x) (sym st) h)
  layer_with (move.Key key) (shape_layer.Dictionary k item) l x t f st h = key_with key k item l x f st.0 (subst (Fit types x) (sym st.1) h)
  layer_with m d l x t f st h = absurd st

  -- a value keeps its shape with another part of the shape that the step leads to
  pub with_part_fits : (m : Move) (v x : Value) (s t : Shape) → Fit types v s → StepsTo types m (out-Shape s) t → Fit types x t → Fit types (with_part m v x) s
  with_part_fits m v x s t f st h = subst (Fit types (with_part m v x)) (roll-out-Shape s) (layer_with m (out-Shape s) (out-Value v) x t (fit_out types v s f) st h)
