-- Lists of values that fit their shapes: read, changed, grown and taken apart.
use Rattle.value_shapes.proofs.Common.{ℕ, zero, suc, List, [], length, Some, refl, subst, and_parts, and_from, false≢true, none-some, same_Some, Shape, EventShape, Value, all_get, all_set, Fit, AllFit}
use Rattle.std.proofs.Common.{◌≡◌, ◌∷◌, ◌++◌, slice_set}
use Rattle.std.specs.List.{slice_get}
use Rattle.value_rules.specs.Shapes.{has, shapes_have}
use Rattle.value_rules.proofs.Shaped.{have-at, have-length, have-set}
use Rattle.value_steps.specs.Orderly.{IsOrderly}

module _ (types : List EventShape) where
  -- no values have no shapes
  pub fit_nil : AllFit types [] []
  fit_nil = record { have = refl; order = tt }

  -- one more value of one more shape in front
  pub fit_cons : (v : Value) (vs : List Value) (s : Shape) (ss : List Shape) → Fit types v s → AllFit types vs ss → AllFit types (v ∷ vs) (s ∷ ss)
  fit_cons v vs s ss f a = record { have = and_from (has types v s) (shapes_have types vs ss) f.has a.have; order = (f.order, a.order) }

  pub fit_head : (v : Value) (vs : List Value) (s : Shape) (ss : List Shape) → AllFit types (v ∷ vs) (s ∷ ss) → Fit types v s
  fit_head v vs s ss a = record { has = (and_parts (has types v s) (shapes_have types vs ss) a.have).0; order = a.order.0 }

  pub fit_tail : (v : Value) (vs : List Value) (s : Shape) (ss : List Shape) → AllFit types (v ∷ vs) (s ∷ ss) → AllFit types vs ss
  fit_tail v vs s ss a = record { have = (and_parts (has types v s) (shapes_have types vs ss) a.have).1; order = a.order.1 }

  -- there are as many values as shapes
  pub fit_length : (values : List Value) (shapes : List Shape) → AllFit types values shapes → length values ≡ length shapes
  fit_length values shapes a = have-length types values shapes a.have

  -- the value at a place fits the shape there
  pub fit_at : (values : List Value) (shapes : List Shape) (i : ℕ) (v : Value) (s : Shape) → AllFit types values shapes → slice_get values i ≡ Some v → slice_get shapes i ≡ Some s → Fit types v s
  fit_at values shapes i v s a x y = record { has = have-at types values shapes i v s a.have x y; order = all_get IsOrderly values i v a.order x }

  -- where a shape stands there is a value, which fits it
  pub fit_there : (values : List Value) (shapes : List Shape) (i : ℕ) (s : Shape) → AllFit types values shapes → slice_get shapes i ≡ Some s → (v : Value) × (slice_get values i ≡ Some v) × Fit types v s
  fit_there values [] i s a e = absurd (none-some _ e)
  fit_there [] (t ∷ shapes) i s a e = absurd (false≢true a.have)
  fit_there (v ∷ values) (t ∷ shapes) zero s a e = (v, refl, subst (Fit types v) (same_Some _ _ e) (fit_head v values t shapes a))
  fit_there (v ∷ values) (t ∷ shapes) (suc i) s a e = fit_there values shapes i s (fit_tail v values t shapes a) e

  -- a value that fits may be put at a place
  pub fit_set : (values : List Value) (shapes : List Shape) (i : ℕ) (v : Value) (s : Shape) → AllFit types values shapes → slice_get shapes i ≡ Some s → Fit types v s → AllFit types (slice_set values i v) shapes
  fit_set values shapes i v s a e f = record { have = have-set types values shapes i v s a.have e f.has; order = all_set IsOrderly values i v a.order f.order }

  -- two lists one behind the other
  pub fit_append : (vs ws : List Value) (ss ts : List Shape) → AllFit types vs ss → AllFit types ws ts → AllFit types (vs ++ ws) (ss ++ ts)
  fit_append [] ws [] ts a b = b
  fit_append [] ws (s ∷ ss) ts a b = absurd (false≢true a.have)
  fit_append (v ∷ vs) ws [] ts a b = absurd (false≢true a.have)
  fit_append (v ∷ vs) ws (s ∷ ss) ts a b = fit_cons v (vs ++ ws) s (ss ++ ts) (fit_head v vs s ss a) (fit_append vs ws ss ts (fit_tail v vs s ss a) b)
