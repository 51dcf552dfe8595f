-- Values of each kind that fit: what is made of parts that fit, and the parts of what fits.
use Rattle.std.proofs.Common.{◌≡◌}
use Rattle.value_shapes.proofs.Common.{ℕ, ℤ, List, map, Bool, Some, refl, sym, subst, true≢false, slice_get, AllByRecursion, Shape, Shape-F, roll-Shape, EventShape, Value, Value-F, out-Value, roll-Value, Pair, KeysAscend, fields_of, pairs_of, Fit, AllFit}
use Rattle.epl_values.specs.declared.shape.Shape.TheOpen as shape_layer
use Rattle.epl_values.specs.declared.shape.Shape.TheVariants as shape
use Rattle.epl_values.specs.declared.value.Value.TheOpen as layer
use Rattle.epl_values.specs.declared.value.Value.TheVariants as value
use Rattle.body_meaning.specs.Values.{items_in, items_of, pairs_in, fields_in}
use Rattle.value_shapes.specs.Fits.{IsEvent}
use Rattle.value_shapes.proofs.Layers.{EachFit, EntriesFit, LayerFits, dictionary_layer, event_known, event_layer, event_number, fit_out, fit_rolled, layer_dictionary, layer_event, layer_sequence, sequence_layer}

module _ (types : List EventShape) where
  -- a value and a shape under the names of their variants
  pub fit_named : (l : Value-F Value Pair) (d : Shape-F Shape) (v : Value) (s : Shape) → roll-Value l ≡ v → roll-Shape d ≡ s → LayerFits types l d → Fit types v s
  fit_named l d v s a b f = subst (λ w. Fit types w s) a (subst (Fit types (roll-Value l)) b (fit_rolled types l d f))

  pub integer_fits : (n : ℤ) → Fit types (value.Integer n) shape.Integer
  integer_fits n = fit_named (layer.Integer n) shape_layer.Integer (value.Integer n) shape.Integer (value.rolls-Integer n) shape.rolls-Integer (record { has = refl; keys = tt; parts = tt })

  pub boolean_fits : (b : Bool) → Fit types (value.Boolean b) shape.Boolean
  boolean_fits b = fit_named (layer.Boolean b) shape_layer.Boolean (value.Boolean b) shape.Boolean (value.rolls-Boolean b) shape.rolls-Boolean (record { has = refl; keys = tt; parts = tt })

  pub text_fits : (t : List ℕ) → Fit types (value.Text t) shape.Text
  text_fits t = fit_named (layer.Text t) shape_layer.Text (value.Text t) shape.Text (value.rolls-Text t) shape.rolls-Text (record { has = refl; keys = tt; parts = tt })

  pub context_fits : (slot : ℕ) → Fit types (value.Context slot) shape.Context
  context_fits slot = fit_named (layer.Context slot) shape_layer.Context (value.Context slot) shape.Context (value.rolls-Context slot) shape.rolls-Context (record { has = refl; keys = tt; parts = tt })

  pub no_context_fits : Fit types value.NoContext shape.Context
  no_context_fits = fit_named layer.NoContext shape_layer.Context value.NoContext shape.Context value.rolls-NoContext shape.rolls-Context (record { has = refl; keys = tt; parts = tt })

  pub listener_fits : (birth : ℕ) → Fit types (value.Listener birth) shape.Listener
  listener_fits birth = fit_named (layer.Listener birth) shape_layer.Listener (value.Listener birth) shape.Listener (value.rolls-Listener birth) shape.rolls-Listener (record { has = refl; keys = tt; parts = tt })

  -- a sequence of values that fit the element
  pub sequence_made : (values : List Value) (element : Shape) → AllByRecursion (λ v. Fit types v element) values → Fit types (value.Sequence values) (shape.Sequence element)
  sequence_made values element a = fit_named (layer.Sequence values) (shape_layer.Sequence element) (value.Sequence values) (shape.Sequence element) (value.rolls-Sequence values) (shape.rolls-Sequence element) (layer_sequence types values element a)

  -- a dictionary of entries that fit and ascend
  pub dictionary_made : (pairs : List Pair) (k item : Shape) → AllByRecursion (λ p. Fit types p.key k × Fit types p.value item) pairs → KeysAscend pairs → Fit types (value.Dictionary pairs) (shape.Dictionary k item)
  dictionary_made pairs k item a o = fit_named (layer.Dictionary pairs) (shape_layer.Dictionary k item) (value.Dictionary pairs) (shape.Dictionary k item) (value.rolls-Dictionary pairs) (shape.rolls-Dictionary k item) (layer_dictionary types pairs k item a o)

  -- an event whose fields fit its type
  pub event_made : (n : ℕ) (fields : List Value) (event : EventShape) → AllFit types fields (map (λ f. f.shape) (fields_of (slice_get types n))) → slice_get types n ≡ Some event → Fit types (value.Event n fields) (shape.Event n)
  event_made n fields event a e = fit_named (layer.Event n fields) (shape_layer.Event n) (value.Event n fields) (shape.Event n) (value.rolls-Event n fields) (shape.rolls-Event n) (layer_event types n fields event a e)

  -- ---- what is in them

  items_in_layer : (l : Value-F Value Pair) (element : Shape) → LayerFits types l (shape_layer.Sequence element) → EachFit types element (items_in l)
  items_in_layer (layer.Sequence items) element f = sequence_layer types items element f
  items_in_layer l element f = tt

  pub sequence_items : (v : Value) (element : Shape) → Fit types v (shape.Sequence element) → AllByRecursion (λ w. Fit types w element) (items_of v)
  sequence_items v element f = items_in_layer (out-Value v) element (subst (LayerFits types (out-Value v)) (shape.outs-Sequence element) (fit_out types v (shape.Sequence element) f))

  entries_in_layer : (l : Value-F Value Pair) (k item : Shape) → LayerFits types l (shape_layer.Dictionary k item) → EntriesFit types k item (pairs_in l) × KeysAscend (pairs_in l)
  entries_in_layer (layer.Dictionary pairs) k item f = (dictionary_layer types pairs k item f, f.keys)
  entries_in_layer l k item f = (tt, tt)

  pub dictionary_entries : (v : Value) (k item : Shape) → Fit types v (shape.Dictionary k item) → AllByRecursion (λ p. Fit types p.key k × Fit types p.value item) (pairs_of v) × KeysAscend (pairs_of v)
  dictionary_entries v k item f = entries_in_layer (out-Value v) k item (subst (LayerFits types (out-Value v)) (shape.outs-Dictionary k item) (fit_out types v (shape.Dictionary k item) f))

  pub out_event : (v : Value) (n : ℕ) → Fit types v (shape.Event n) → LayerFits types (out-Value v) (shape_layer.Event n)
  out_event v n f = subst (LayerFits types (out-Value v)) (shape.outs-Event n) (fit_out types v (shape.Event n) f)

  fields_in_layer : (l : Value-F Value Pair) (n : ℕ) → LayerFits types l (shape_layer.Event n) → AllFit types (fields_in l) (map (λ f. f.shape) (fields_of (slice_get types n)))
  fields_in_layer (layer.Event e fields) n f = event_layer types e n fields f
  fields_in_layer l n f = absurd (true≢false (sym f.has))

  -- the fields of an event fit its type
  pub event_fields : (v : Value) (n : ℕ) → Fit types v (shape.Event n) → AllFit types (fields_in (out-Value v)) (map (λ f. f.shape) (fields_of (slice_get types n)))
  event_fields v n f = fields_in_layer (out-Value v) n (out_event v n f)

  known_in_layer : (l : Value-F Value Pair) (n : ℕ) → LayerFits types l (shape_layer.Event n) → (event : EventShape) × (slice_get types n ≡ Some event)
  known_in_layer (layer.Event e fields) n f = event_known types e n fields f
  known_in_layer l n f = absurd (true≢false (sym f.has))

  -- the type of an event is there
  pub event_there : (v : Value) (n : ℕ) → Fit types v (shape.Event n) → (event : EventShape) × (slice_get types n ≡ Some event)
  event_there v n f = known_in_layer (out-Value v) n (out_event v n f)

  is_event_in : (v : Value) (l : Value-F Value Pair) (n : ℕ) → LayerFits types l (shape_layer.Event n) → Fit types v (shape.Event n) → IsEvent types v l
  is_event_in v (layer.Event e fields) n f h = subst (λ k. Fit types v (shape.Event k)) (sym (event_number types e n fields f)) h
  is_event_in v l n f h = absurd (true≢false (sym f.has))

  -- what fits an event type is an event of its type
  pub is_event_fits : (v : Value) (n : ℕ) → Fit types v (shape.Event n) → IsEvent types v (out-Value v)
  is_event_fits v n f = is_event_in v (out-Value v) n (out_event v n f) f
