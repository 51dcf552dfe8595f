-- A value that is changed at the end of a path keeps its shape.
use Rattle.std.proofs.Common.{◌≡◌, ◌∷◌}
use Rattle.value_shapes.proofs.Common.{List, [], Ok, Err, refl, sym, subst, Result, Shape, out-Shape, EventShape, Value, Value-F, out-Value, Pair, Fault, Move, part, part_in, with_part, with_part_in, ok_same, Fit, StepsTo}
use Rattle.epl_values.specs.declared.value.Value.TheOpen as layer
use Rattle.body_meaning.specs.declared.run.Move.TheVariants as move
use Rattle.body_meaning.specs.Paths.{altered, put, put_in, stored, then_try}
use Rattle.value_shapes.specs.Fits.{LeadsTo}
use Rattle.value_shapes.proofs.Parts.{part_fits, with_part_fits}

try_ok : {A B : Type 0} (p : Result A Fault) (F : A → Result B Fault) (w : B) → then_try p F ≡ Ok w → (x : A) × (p ≡ Ok x) × (F x ≡ Ok w)
try_ok (Ok x) F w h = (x, refl, h)
try_ok (Err e) F w h = cc

put_is : (m : Move) (x : Value) (l : Value-F Value Pair) (w : Value) → put_in m x l ≡ Ok w → with_part_in m l x ≡ w
put_is (move.Key key) x (layer.Dictionary pairs) w h = ok_same _ w h
put_is m x l w h = let found = try_ok (part_in m l) (λ old. Ok (with_part_in m l x)) w h in ok_same (with_part_in m l x) w found.2

module _ (types : List EventShape) where
  -- a value put at a part
  pub put_fits : (m : Move) (x v w : Value) (s t : Shape) → Fit types v s → StepsTo types m (out-Shape s) t → Fit types x t → put m x v ≡ Ok w → Fit types w s
  put_fits m x v w s t f st h e = subst (λ y. Fit types y s) (put_is m x (out-Value v) w e) (with_part_fits types m v x s t f st h)

  -- a value stored at the end of a path
  pub stored_fits : (moves : List Move) (v x w : Value) (s t : Shape) → Fit types v s → LeadsTo types moves s t → Fit types x t → stored moves x v ≡ Ok w → Fit types w s
  stored_fits [] v x w s t f to h e = subst (λ y. Fit types y s) (ok_same x w e) (subst (Fit types x) (sym to) h)
  stored_fits (m ∷ []) v x w s t f to h e = put_fits m x v w s to.0 f to.1 (subst (Fit types x) (sym to.2) h) e
  stored_fits (m ∷ n ∷ ms) v x w s t f to h e =
      let found = try_ok (part m v) (λ y. then_try (stored (n ∷ ms) x y) (λ z. Ok (with_part m v z))) w e in
      let made = try_ok (stored (n ∷ ms) x found.0) (λ z. Ok (with_part m v z)) w found.2 in
      let new = stored_fits (n ∷ ms) found.0 x made.0 to.0 t (part_fits types m v found.0 s to.0 f to.1 found.1) to.2 h made.1 in
      subst (λ y. Fit types y s) (ok_same (with_part m v made.0) w made.2) (with_part_fits types m v made.0 s to.0 f to.1 new)

  -- a value whose part at the end of a path is changed by what keeps the shape there
  pub altered_fits : (moves : List Move) (f : Value → Result Value Fault) (v w : Value) (s t : Shape) → Fit types v s → LeadsTo types moves s t → ((a b : Value) → Fit types a t → f a ≡ Ok b → Fit types b t) → altered moves f v ≡ Ok w → Fit types w s
  altered_fits [] f v w s t h to keeps e = subst (Fit types w) (sym to) (keeps v w (subst (Fit types v) to h) e)
  altered_fits (m ∷ ms) f v w s t h to keeps e =
      let found = try_ok (part m v) (λ x. then_try (altered ms f x) (λ y. Ok (with_part m v y))) w e in
      let made = try_ok (altered ms f found.0) (λ y. Ok (with_part m v y)) w found.2 in
      let new = altered_fits ms f found.0 made.0 to.0 t (part_fits types m v found.0 s to.0 h to.1 found.1) to.2 keeps made.1 in
      subst (λ y. Fit types y s) (ok_same (with_part m v made.0) w made.2) (with_part_fits types m v made.0 s to.0 h to.1 new)
