-- Values that fit shapes, layer by layer: what is in them, and what is made of parts that fit.
use Rattle.value_shapes.proofs.Common.{ℕ, List, [], map, true, Option, Some, None, refl, sym, ap, ◌∙◌, subst, true≢false, slice_get, AllByRecursion, list_all, and_parts, and_from, eqb-true, eq-eqb, Shape, Shape-F, out-Shape, roll-Shape, out-roll-Shape, EventShape, Value, Value-F, out-Value, roll-Value, map-Value, fold-roll-Value, Pair, KeysAscend, PairFit, all_fit, fits, pair_fits, pair_has, fields_of, AreOrderly, Fit, AllFit}
use Rattle.std.proofs.Common.{◌≡◌, ◌∷◌, ◌==◌}
use Rattle.epl_values.specs.declared.shape.Shape.TheOpen as shape_layer
use Rattle.epl_values.specs.declared.value.Value.{fold_out-Value}
use Rattle.epl_values.specs.declared.value.Value.TheOpen as layer
use Rattle.value_rules.specs.Shapes.{Fit as Test, event_fits, has}
use Rattle.value_rules.proofs.Having.{pair-has}
use Rattle.value_steps.specs.Orderly.{AreOrderlyPairs, KeysInOrder}
use Rattle.value_steps.proofs.Parted.{PartsInOrder, keys_orderly, orderly_made, parts_orderly}

-- each value of several fits one shape
abbrev pub EachFit : List EventShape → Shape → List Value → Type 0
EachFit types element values = AllByRecursion (λ v. Fit types v element) values

-- the key and the value of an entry fit these shapes
abbrev pub EntryFit : List EventShape → Shape → Shape → Pair → Type 0
EntryFit types k item pair = Fit types pair.key k × Fit types pair.value item

-- the same of each entry
abbrev pub EntriesFit : List EventShape → Shape → Shape → List Pair → Type 0
EntriesFit types k item pairs = AllByRecursion (EntryFit types k item) pairs

-- a layer of a value fits a layer of a shape
pub record LayerFits (types : List EventShape) (l : Value-F Value Pair) (d : Shape-F Shape) : Type 0 where
  pub has : fits types (map-Value Value Pair Test PairFit (has types) (pair_has types) l) d ≡ true
  pub keys : KeysInOrder l
  pub parts : PartsInOrder l

module _ (types : List EventShape) where
  pub fit_out : (v : Value) (s : Shape) → Fit types v s → LayerFits types (out-Value v) (out-Shape s)
  fit_out v s f = record {
    has = sym (ap (λ (t : Test). t s) (fold_out-Value Test PairFit (λ w t. fits types w (out-Shape t)) pair_fits v)) ∙ f.has;
    keys = keys_orderly v f.order;
    parts = parts_orderly v f.order;
  }

  pub fit_rolled : (l : Value-F Value Pair) (d : Shape-F Shape) → LayerFits types l d → Fit types (roll-Value l) (roll-Shape d)
  fit_rolled l d f = record {
    has = ap (λ (t : Test). t (roll-Shape d)) (fold-roll-Value Test PairFit (λ w t. fits types w (out-Shape t)) pair_fits l)
        ∙ ap (fits types (map-Value Value Pair Test PairFit (has types) (pair_has types) l)) (out-roll-Shape d) ∙ f.has;
    order = orderly_made l f.keys f.parts;
  }

  -- ---- the parts of layers

  pub each_from : (items : List Value) (element : Shape) → list_all (λ (p : Test). p element) (map (has types) items) ≡ true → AreOrderly items → EachFit types element items
  each_from [] element h o = tt
  each_from (v ∷ vs) element h o =
      let b = and_parts (has types v element) (list_all (λ (p : Test). p element) (map (has types) vs)) h in
      (record { has = b.0; order = o.0 }, each_from vs element b.1 o.1)

  pub each_has : (items : List Value) (element : Shape) → EachFit types element items → list_all (λ (p : Test). p element) (map (has types) items) ≡ true
  each_has [] element a = refl
  each_has (v ∷ vs) element a = and_from (has types v element) (list_all (λ (p : Test). p element) (map (has types) vs)) a.0.has (each_has vs element a.1)

  pub each_order : (items : List Value) (element : Shape) → EachFit types element items → AreOrderly items
  each_order [] element a = tt
  each_order (v ∷ vs) element a = (a.0.order, each_order vs element a.1)

  pub entries_from : (pairs : List Pair) (k item : Shape) → list_all (λ (p : PairFit). p k item) (map (pair_has types) pairs) ≡ true → AreOrderlyPairs pairs → EntriesFit types k item pairs
  entries_from [] k item h o = tt
  entries_from (p ∷ ps) k item h o =
      let b = and_parts (pair_has types p k item) (list_all (λ (q : PairFit). q k item) (map (pair_has types) ps)) h in
      let c = and_parts (has types p.key k) (has types p.value item) (sym (pair-has types p k item) ∙ b.0) in
      ((record { has = c.0; order = o.0.0 }, record { has = c.1; order = o.0.1 }), entries_from ps k item b.1 o.1)

  pub entries_have : (pairs : List Pair) (k item : Shape) → EntriesFit types k item pairs → list_all (λ (p : PairFit). p k item) (map (pair_has types) pairs) ≡ true
  entries_have [] k item a = refl
  entries_have (p ∷ ps) k item a = and_from (pair_has types p k item) (list_all (λ (q : PairFit). q k item) (map (pair_has types) ps)) (pair-has types p k item ∙ and_from (has types p.key k) (has types p.value item) a.0.0.has a.0.1.has) (entries_have ps k item a.1)

  pub entries_order : (pairs : List Pair) (k item : Shape) → EntriesFit types k item pairs → AreOrderlyPairs pairs
  entries_order [] k item a = tt
  entries_order (p ∷ ps) k item a = ((a.0.0.order, a.0.1.order), entries_order ps k item a.1)

  event_have : (parts : List Test) (o : Option EventShape) → event_fits parts o ≡ true → all_fit parts (map (λ f. f.shape) (fields_of o)) ≡ true
  event_have parts None h = absurd (true≢false (sym h))
  event_have parts (Some event) h = h

  event_has : (parts : List Test) (o : Option EventShape) (event : EventShape) → o ≡ Some event → all_fit parts (map (λ f. f.shape) (fields_of o)) ≡ true → event_fits parts o ≡ true
  event_has parts None event e h = cc
  event_has parts (Some other) event e h = h

  event_is : (parts : List Test) (o : Option EventShape) → event_fits parts o ≡ true → (event : EventShape) × (o ≡ Some event)
  event_is parts None h = absurd (true≢false (sym h))
  event_is parts (Some event) h = (event, refl)

  -- ---- layers that fit

  pub sequence_layer : (items : List Value) (element : Shape) → LayerFits types (layer.Sequence items) (shape_layer.Sequence element) → EachFit types element items
  sequence_layer items element f = each_from items element f.has f.parts

  pub layer_sequence : (items : List Value) (element : Shape) → EachFit types element items → LayerFits types (layer.Sequence items) (shape_layer.Sequence element)
  layer_sequence items element a = record { has = each_has items element a; keys = tt; parts = each_order items element a }

  pub dictionary_layer : (pairs : List Pair) (k item : Shape) → LayerFits types (layer.Dictionary pairs) (shape_layer.Dictionary k item) → EntriesFit types k item pairs
  dictionary_layer pairs k item f = entries_from pairs k item f.has f.parts

  pub layer_dictionary : (pairs : List Pair) (k item : Shape) → EntriesFit types k item pairs → KeysAscend pairs → LayerFits types (layer.Dictionary pairs) (shape_layer.Dictionary k item)
  layer_dictionary pairs k item a o = record { has = entries_have pairs k item a; keys = o; parts = entries_order pairs k item a }

  pub event_number : (e n : ℕ) (fields : List Value) → LayerFits types (layer.Event e fields) (shape_layer.Event n) → e ≡ n
  event_number e n fields f = eqb-true e n (and_parts (e == n) (event_fits (map (has types) fields) (slice_get types e)) f.has).0

  pub event_known : (e n : ℕ) (fields : List Value) → LayerFits types (layer.Event e fields) (shape_layer.Event n) → (event : EventShape) × (slice_get types n ≡ Some event)
  event_known e n fields f = event_is (map (has types) fields) (slice_get types n) (subst (λ (k : ℕ). event_fits (map (has types) fields) (slice_get types k) ≡ true) (event_number e n fields f) (and_parts (e == n) (event_fits (map (has types) fields) (slice_get types e)) f.has).1)

  pub event_layer : (e n : ℕ) (fields : List Value) → LayerFits types (layer.Event e fields) (shape_layer.Event n) → AllFit types fields (map (λ f. f.shape) (fields_of (slice_get types n)))
  event_layer e n fields f = record {
    have = event_have (map (has types) fields) (slice_get types n) (subst (λ (k : ℕ). event_fits (map (has types) fields) (slice_get types k) ≡ true) (event_number e n fields f) (and_parts (e == n) (event_fits (map (has types) fields) (slice_get types e)) f.has).1);
    order = f.parts;
  }

  pub layer_event : (n : ℕ) (fields : List Value) (event : EventShape) → AllFit types fields (map (λ f. f.shape) (fields_of (slice_get types n))) → slice_get types n ≡ Some event → LayerFits types (layer.Event n fields) (shape_layer.Event n)
  layer_event n fields event a e = record {
    has = and_from (n == n) (event_fits (map (has types) fields) (slice_get types n)) (eq-eqb n n refl) (event_has (map (has types) fields) (slice_get types n) event e a.have);
    keys = tt;
    parts = a.order;
  }
