-- Lists whose items are seen by one of their parts.
use Rattle.std.proofs.Common.{◌<◌, ◌≤◌, ◌∷◌, ◌≡◌}
use Rattle.std.specs.Prelude.{nat_lt}
use Rattle.std.specs.List.{All, remove}
use Rattle.std.proofs.lemmas.List.Elements.{All-head, All-tail}
use Rattle.live_context.proofs.Common.{ℕ, zero, suc, Bool, true, false, cond, List, [], map, find, Option, Some, slice_get, slice_set, refl, sym, ap, ◌∙◌, subst, arith, Ascend, Within, below}

pub map_same : {A B : Type 0} (f g : A → B) → ((x : A) → f x ≡ g x) → (xs : List A) → map f xs ≡ map g xs
map_same f g same [] = refl
map_same f g same (x ∷ xs) = rw (same x) (ap (λ ys. g x ∷ ys) (map_same f g same xs))

pub map_put : {A B : Type 0} (f : A → B) (xs : List A) (at : ℕ) (y : A) → map f (slice_set xs at y) ≡ slice_set (map f xs) at (f y)
map_put f [] at y = refl
map_put f (x ∷ xs) zero y = refl
map_put f (x ∷ xs) (suc at) y = ap (λ ys. f x ∷ ys) (map_put f xs at y)

-- one is put in the place of another that looks the same
pub map_put_same : {A B : Type 0} (f : A → B) (xs : List A) (at : ℕ) (x y : A) → slice_get xs at ≡ Some x → f y ≡ f x → map f (slice_set xs at y) ≡ map f xs
map_put_same f [] at x y is same = refl
map_put_same f (z ∷ xs) zero x y is same = let first : z ≡ x = cc in ap (λ b. b ∷ map f xs) (same ∙ ap f (sym first))
map_put_same f (z ∷ xs) (suc at) x y is same = ap (λ ys. f z ∷ ys) (map_put_same f xs at x y is same)

pub map_removed : {A B : Type 0} (f : A → B) (xs : List A) (at : ℕ) → map f (remove xs at) ≡ remove (map f xs) at
map_removed f [] zero = refl
map_removed f [] (suc at) = refl
map_removed f (x ∷ xs) zero = refl
map_removed f (x ∷ xs) (suc at) = ap (λ ys. f x ∷ ys) (map_removed f xs at)

-- what holds of all holds of one that is found
found_step : {A : Type 0} (P : A → Type 0) (b : Bool) (y x : A) (o : Option A) → P y → (o ≡ Some x → P x) → cond b (Some y) o ≡ Some x → P x
found_step P true y x o holds rest is = let s : y ≡ x = cc in subst P s holds
found_step P false y x o holds rest is = rest is

pub found_has : {A : Type 0} (P : A → Type 0) (p : A → Bool) (xs : List A) (x : A) → All P xs → find p xs ≡ Some x → P x
found_has P p [] x all is = absurd (cc)
found_has P p (y ∷ ys) x all is = found_step P (p y) y x (find p ys) (All-head P y ys all) (found_has P p ys x (All-tail P y ys all)) is

-- and of one that stands at a place
pub placed_has : {A : Type 0} (P : A → Type 0) (xs : List A) (at : ℕ) (x : A) → All P xs → slice_get xs at ≡ Some x → P x
placed_has P [] at x all is = absurd (cc)
placed_has P (y ∷ ys) zero x all is = let s : y ≡ x = cc in subst P s (All-head P y ys all)
placed_has P (y ∷ ys) (suc at) x all is = placed_has P ys at x (All-tail P y ys all) is

-- ---- numbers of a part

-- a lesser bound
pub lower : {A : Type 0} (n : A → ℕ) (low least : ℕ) (xs : List A) → least ≤ low → Ascend n low xs → Ascend n least xs
lower n low least [] h a = tt
lower n low least (x ∷ xs) h a = let first : low < n x = a.0 in (omega arith, a.1)

pub ascend_in : {A B : Type 0} (f : A → B) (n : B → ℕ) (low : ℕ) (xs : List A) → Ascend n low (map f xs) → Ascend (λ x. n (f x)) low xs
ascend_in f n low [] a = tt
ascend_in f n low (x ∷ xs) a = (a.0, ascend_in f n (n (f x)) xs a.1)

pub ascend_out : {A B : Type 0} (f : A → B) (n : B → ℕ) (low : ℕ) (xs : List A) → Ascend (λ x. n (f x)) low xs → Ascend n low (map f xs)
ascend_out f n low [] a = tt
ascend_out f n low (x ∷ xs) a = (a.0, ascend_out f n (n (f x)) xs a.1)

pub within_in : {A B : Type 0} (f : A → B) (n : B → ℕ) (high : ℕ) (xs : List A) → Within n high (map f xs) → Within (λ x. n (f x)) high xs
within_in f n high [] w = tt
within_in f n high (x ∷ xs) w = (w.0, within_in f n high xs w.1)

pub within_out : {A B : Type 0} (f : A → B) (n : B → ℕ) (high : ℕ) (xs : List A) → Within (λ x. n (f x)) high xs → Within n high (map f xs)
within_out f n high [] w = tt
within_out f n high (x ∷ xs) w = (w.0, within_out f n high xs w.1)

pub below_in : {A B : Type 0} (f : A → B) (n : B → ℕ) (k : ℕ) (xs : List A) → below (λ x. n (f x)) k xs ≡ below n k (map f xs)
below_in f n k [] = refl
below_in f n k (x ∷ xs) = ap (λ m. cond (nat_lt (n (f x)) k) (suc m) 0) (below_in f n k xs)

-- lists with the same numbers
pub ascend_same : {A : Type 0} (n : A → ℕ) (low : ℕ) (xs ys : List A) → map n ys ≡ map n xs → Ascend n low xs → Ascend n low ys
ascend_same n low xs ys same a = ascend_in n (λ k. k) low ys (subst (Ascend (λ k. k) low) (sym same) (ascend_out n (λ k. k) low xs a))

pub within_same : {A : Type 0} (n : A → ℕ) (high : ℕ) (xs ys : List A) → map n ys ≡ map n xs → Within n high xs → Within n high ys
within_same n high xs ys same w = within_in n (λ k. k) high ys (subst (Within (λ k. k) high) (sym same) (within_out n (λ k. k) high xs w))
