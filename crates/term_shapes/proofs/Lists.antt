-- What is true of each element of a list, in its parts.
use Rattle.std.proofs.Common.{◌≡◌, ◌∷◌, ◌++◌, zero, suc}
use Rattle.std.proofs.lemmas.Option.{same_Some}
use Rattle.term_shapes.proofs.Common.{ℕ, List, [], Some, slice_get, subst, All, All-nil, All-cons, All-head, All-tail}

-- of two lists, one behind the other, the first
pub all_first : {X : Type 0} (P : X → Type 0) (xs ys : List X) → All P (xs ++ ys) → All P xs
all_first P [] ys h = All-nil P
all_first P (x ∷ xs) ys h = All-cons P x xs (All-head P x (xs ++ ys) h) (all_first P xs ys (All-tail P x (xs ++ ys) h))

-- and the second
pub all_second : {X : Type 0} (P : X → Type 0) (xs ys : List X) → All P (xs ++ ys) → All P ys
all_second P [] ys h = h
all_second P (x ∷ xs) ys h = all_second P xs ys (All-tail P x (xs ++ ys) h)

-- the element at a place
pub all_at : {X : Type 0} (P : X → Type 0) (xs : List X) (n : ℕ) (x : X) → All P xs → slice_get xs n ≡ Some x → P x
all_at P [] n x h at = cc
all_at P (y ∷ xs) zero x h at = subst P (same_Some y x at) (All-head P y xs h)
all_at P (y ∷ xs) (suc n) x h at = all_at P xs n x (All-tail P y xs h) at
