-- Entries that fit, with one put in or taken out.
use Rattle.std.proofs.Common.{◌≡◌, ◌∷◌}
use Rattle.value_shapes.proofs.Common.{List, [], Bool, true, false, refl, AllByRecursion, Shape, EventShape, Value, Pair, out-Pair, KeysAscend, order_of, is_key, with_entry, without_entry, Fit}
use Rattle.std.specs.declared.cmp.Ordering.{Ordering}
use Rattle.std.specs.declared.cmp.Ordering.TheVariants.{Less, Equal, Greater}
use Rattle.value_steps.proofs.Ascending.{ascend_with}
use Rattle.value_steps.proofs.Called.{ascend_without}
use Rattle.value_shapes.proofs.Layers.{EntriesFit}

module _ (types : List EventShape) where
  with_step : (key v : Value) (p : Pair) (ps : List Pair) (k item : Shape) (o : Ordering) → order_of (out-Pair p).key key ≡ o → EntriesFit types k item (p ∷ ps) → Fit types key k → Fit types v item → EntriesFit types k item (with_entry key v ps) → EntriesFit types k item (with_entry key v (p ∷ ps))
  with_step key v p ps k item Less e a fk fv more = rw e (a.0, more)
  with_step key v p ps k item Equal e a fk fv more = rw e ((a.0.0, fv), a.1)
  with_step key v p ps k item Greater e a fk fv more = rw e ((fk, fv), a)

  with_fits : (key v : Value) (pairs : List Pair) (k item : Shape) → EntriesFit types k item pairs → Fit types key k → Fit types v item → EntriesFit types k item (with_entry key v pairs)
  with_fits key v [] k item a fk fv = ((fk, fv), tt)
  with_fits key v (p ∷ ps) k item a fk fv = with_step key v p ps k item (order_of (out-Pair p).key key) refl a fk fv (with_fits key v ps k item a.1 fk fv)

  -- with a value at a key the entries fit and ascend
  pub entry_fits : (key v : Value) (pairs : List Pair) (k item : Shape) → Fit types key k → Fit types v item → AllByRecursion (λ p. Fit types p.key k × Fit types p.value item) pairs → KeysAscend pairs → AllByRecursion (λ p. Fit types p.key k × Fit types p.value item) (with_entry key v pairs) × KeysAscend (with_entry key v pairs)
  entry_fits key v pairs k item fk fv a o = (with_fits key v pairs k item a fk fv, ascend_with key v pairs o)

  without_step : (key : Value) (p : Pair) (ps : List Pair) (k item : Shape) (b : Bool) → is_key key p ≡ b → EntriesFit types k item (p ∷ ps) → EntriesFit types k item (without_entry key ps) → EntriesFit types k item (without_entry key (p ∷ ps))
  without_step key p ps k item true e a more = rw e a.1
  without_step key p ps k item false e a more = rw e (a.0, more)

  left_fits : (key : Value) (pairs : List Pair) (k item : Shape) → EntriesFit types k item pairs → EntriesFit types k item (without_entry key pairs)
  left_fits key [] k item a = tt
  left_fits key (p ∷ ps) k item a = without_step key p ps k item (is_key key p) refl a (left_fits key ps k item a.1)

  -- without that at a key the entries fit and ascend
  pub without_fits : (key : Value) (pairs : List Pair) (k item : Shape) → AllByRecursion (λ p. Fit types p.key k × Fit types p.value item) pairs → KeysAscend pairs → AllByRecursion (λ p. Fit types p.key k × Fit types p.value item) (without_entry key pairs) × KeysAscend (without_entry key pairs)
  without_fits key pairs k item a o = (left_fits key pairs k item a, ascend_without key pairs o)
