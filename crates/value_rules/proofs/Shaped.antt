-- Values with shapes by their parts, and lists of values that are read, changed and grown.
use Rattle.value_rules.proofs.Common.{ℕ, zero, suc, List, [], length, map, Bool, true, false, Some, refl, sym, ap, ◌∙◌, AllByRecursion, slice_get, none-some, Shape, EventShape, Value, Pair, default_of, event_fits, fits, pair_has}
use Rattle.std.proofs.Common.{◌≡◌, ◌∷◌, ◌++◌, ◌&&◌, ◌==◌, slice_set}
use Rattle.std.specs.List.{list_all}
use Rattle.std.proofs.lemmas.Bool.{false≢true}
use Rattle.std.proofs.lemmas.List.Folds.{list_all-map}
use Rattle.std.proofs.lemmas.Option.{same_Some}
use Rattle.epl_values.specs.declared.shape.Shape.TheVariants as shape
use Rattle.epl_values.specs.declared.value.Value.TheOpen as part
use Rattle.epl_values.specs.declared.value.Value.TheVariants as value
use Rattle.value_rules.specs.Shapes.{has, shapes_have}
use Rattle.value_rules.proofs.Having.{has-sequence, has-dictionary, has-event, pair-has}

both : (a b : Bool) → (a && b) ≡ true → (a ≡ true) × (b ≡ true)
both true b h = (refl, h)
both false b h = absurd (false≢true h)

module _ (types : List EventShape) where
  pub sequence-has : (items : List Value) (element : Shape) → has types (value.Sequence items) (shape.Sequence element) ≡ list_all (λ v. has types v element) items
  sequence-has items element =
      has-sequence types items (shape.Sequence element) ∙ ap (fits types (part.Sequence (map (has types) items))) (shape.outs-Sequence element)
      ∙ list_all-map (λ p. p element) (has types) items

  pub dictionary-has : (pairs : List Pair) (key item : Shape)
      → has types (value.Dictionary pairs) (shape.Dictionary key item) ≡ list_all (λ pair. has types pair.key key && has types pair.value item) pairs
  dictionary-has pairs key item =
      has-dictionary types pairs (shape.Dictionary key item) ∙ ap (fits types (part.Dictionary (map (pair_has types) pairs))) (shape.outs-Dictionary key item)
      ∙ list_all-map (λ p. p key item) (pair_has types) pairs ∙ (λ i. list_all (λ pair. pair-has types pair key item i) pairs)

  pub event-has : (n m : ℕ) (fields : List Value) → has types (value.Event n fields) (shape.Event m) ≡ (n == m && event_fits (map (has types) fields) (slice_get types n))
  event-has n m fields = has-event types n fields (shape.Event m) ∙ ap (fits types (part.Event n (map (has types) fields))) (shape.outs-Event m)

  -- an event's fields have the shapes of its type
  pub fields-have : (event : EventShape) (fields : List Value) → event_fits (map (has types) fields) (Some event) ≡ shapes_have types fields (map (λ field. field.shape) event.fields)
  fields-have event fields = refl

  pub have-length : (values : List Value) (shapes : List Shape) → shapes_have types values shapes ≡ true → length values ≡ length shapes
  have-length [] [] h = refl
  have-length [] (s ∷ shapes) h = absurd (false≢true h)
  have-length (v ∷ values) [] h = absurd (false≢true h)
  have-length (v ∷ values) (s ∷ shapes) h = ap suc (have-length values shapes (both _ _ h).1)

  -- the value at a place has the shape that stands there
  pub have-at : (values : List Value) (shapes : List Shape) (i : ℕ) (v : Value) (s : Shape) → shapes_have types values shapes ≡ true → slice_get values i ≡ Some v → slice_get shapes i ≡ Some s → has types v s ≡ true
  have-at [] shapes i v s h a b = absurd (none-some _ a)
  have-at (x ∷ values) [] i v s h a b = absurd (none-some _ b)
  have-at (x ∷ values) (t ∷ shapes) zero v s h a b = ap (λ y. has types y s) (sym (same_Some _ _ a)) ∙ ap (has types x) (sym (same_Some _ _ b)) ∙ (both _ _ h).0
  have-at (x ∷ values) (t ∷ shapes) (suc i) v s h a b = have-at values shapes i v s (both _ _ h).1 a b

  -- a value of that shape may stand at the place
  pub have-set : (values : List Value) (shapes : List Shape) (i : ℕ) (v : Value) (s : Shape) → shapes_have types values shapes ≡ true → slice_get shapes i ≡ Some s → has types v s ≡ true → shapes_have types (slice_set values i v) shapes ≡ true
  have-set [] shapes i v s h b k = h
  have-set (x ∷ values) [] i v s h b k = absurd (none-some _ b)
  have-set (x ∷ values) (t ∷ shapes) zero v s h b k = rw (ap (has types v) (same_Some _ _ b) ∙ k) (both _ _ h).1
  have-set (x ∷ values) (t ∷ shapes) (suc i) v s h b k = let here : has types x t ≡ true = (both _ _ h).0 in rw here (have-set values shapes i v s (both _ _ h).1 b k)

  -- one more value of one more shape
  pub have-push : (values : List Value) (shapes : List Shape) (v : Value) (s : Shape) → shapes_have types values shapes ≡ true → has types v s ≡ true → shapes_have types (values ++ v ∷ []) (shapes ++ s ∷ []) ≡ true
  have-push [] [] v s h k = rw k refl
  have-push [] (t ∷ shapes) v s h k = absurd (false≢true h)
  have-push (x ∷ values) [] v s h k = absurd (false≢true h)
  have-push (x ∷ values) (t ∷ shapes) v s h k = let here : has types x t ≡ true = (both _ _ h).0 in rw here (have-push values shapes v s (both _ _ h).1 k)

  -- defaults have the shapes that they are made for
  pub defaults-have : (shapes : List Shape) → AllByRecursion (λ s. has types (default_of types s) s ≡ true) shapes → shapes_have types (map (default_of types) shapes) shapes ≡ true
  defaults-have [] a = refl
  defaults-have (s ∷ shapes) a = rw a.0 (defaults-have shapes a.1)
