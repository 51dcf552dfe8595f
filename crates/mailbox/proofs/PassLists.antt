-- Lists of passes, taken from the front.
use Rattle.std.proofs.Common.{◌≡◌, ℕ, zero, suc, ◌+◌, List, [], ◌∷◌, ◌++◌, length, take, drop, map, refl, sym, ap, ◌∙◌, subst, ◌⊎◌, inl, inr, ⊎_elim, arith, get_or}
use Rattle.std.specs.Prelude.{Some, slice_get, remove}
use Rattle.std.specs.Prelude.{Option}
use Rattle.crossbeam_queue.specs.Passes.{view}
use Rattle.crossbeam_queue.specs.declared.array_queue.Doing.{Doing}
use Rattle.crossbeam_queue.specs.declared.array_queue.Slotted.{Slotted}
use Rattle.mailbox.specs.Rule.{handed_one}
use Rattle.mailbox.specs.Passes.{IsOwn, Fresh, posted_by, posted_in}
use Rattle.mailbox.specs.declared.rule.View.{View}
use Rattle.mailbox.specs.declared.passes.SendPass.{SendPass}

-- the last place of a longer list
pub get_end : {A : Type 0} (l : List A) (a b : A) (j : ℕ) → slice_get (l ++ a ∷ []) j ≡ Some b → (slice_get l j ≡ Some b) ⊎ ((j ≡ length l) × (a ≡ b))
get_end [] a b zero e = inr (refl, cc e)
get_end [] a b (suc j) e = absurd (cc e)
get_end (x ∷ xs) a b zero e = inl e
get_end (x ∷ xs) a b (suc j) e = ⊎_elim (λ t. inl t) (λ (t : (j ≡ length xs) × (a ≡ b)). inr (ap suc t.0, t.1)) (get_end xs a b j e)

-- one fresh pass more, with the next number
pub fresh_more : {E Q A : Type 0} (q : Slotted (Option E) (Doing E (View E)) Q A) (passes : List (SendPass E)) (p : SendPass E) → Fresh q passes → IsOwn q (length passes) p.pass → posted_by p ≡ [] → Fresh q (passes ++ p ∷ [])
fresh_more {E} q passes p all own none k x e =
    ⊎_elim (λ t. all k x t)
    (λ (t : (k ≡ length passes) × (p ≡ x)). subst (λ (z : SendPass E). IsOwn q k z.pass × (posted_by z ≡ [])) t.1 (subst (λ n. IsOwn q n p.pass) (sym t.0) own, none))
    (get_end passes p x k e)

-- the first of what is left is the next
pub next_is : {A : Type 0} (l : List A) (n : ℕ) (a : A) → slice_get (drop n l) 0 ≡ Some a → slice_get l n ≡ Some a
next_is [] zero a e = e
next_is [] (suc n) a e = e
next_is (x ∷ xs) zero a e = e
next_is (x ∷ xs) (suc n) a e = next_is xs n a e

-- and behind it stands what is left then
pub left_is : {A : Type 0} (l : List A) (n : ℕ) → remove (drop n l) 0 ≡ drop (n + 1) l
left_is [] zero = refl
left_is [] (suc n) = let e : suc (n + 1) ≡ suc n + 1 = omega arith in ap (λ k. drop k []) e
left_is (x ∷ xs) zero = refl
left_is (x ∷ xs) (suc n) = let e : suc (n + 1) ≡ suc n + 1 = omega arith in left_is xs n ∙ ap (λ k. drop k (x ∷ xs)) e

-- one more of the front is one more of what is made of it
pub map_more : {A B : Type 0} (f : A → B) (l : List A) (n : ℕ) (a : A) → slice_get l n ≡ Some a → map f (take (n + 1) l) ≡ map f (take n l) ++ f a ∷ []
map_more f [] n a e = absurd (cc e)
map_more f (x ∷ xs) zero a e = let same : x ≡ a = cc e in ap (λ y. f y ∷ []) same
map_more f (x ∷ xs) (suc n) a e =
    let more : suc (n + 1) ≡ suc n + 1 = omega arith in ap (λ k. map f (take k (x ∷ xs))) (sym more) ∙ ap (λ l. f x ∷ l) (map_more f xs n a e)

-- as many are made as stand in the front
pub length-map-take : {A B : Type 0} (f : A → B) (l : List A) (n : ℕ) (a : A) → slice_get l n ≡ Some a → length (map f (take n l)) ≡ n
length-map-take f [] n a e = absurd (cc e)
length-map-take f (x ∷ xs) zero a e = refl
length-map-take f (x ∷ xs) (suc n) a e = ap suc (length-map-take f xs n a e)

-- what was posted with the pass at a place
pub posted_each : {E : Type 0} (passes : List (SendPass E)) (k : ℕ) → get_or (map posted_by passes) k [] ≡ posted_in (slice_get passes k)
posted_each [] k = refl
posted_each (p ∷ ps) zero = refl
posted_each (p ∷ ps) (suc k) = posted_each ps k

-- the taker has taken in the first n passes, and these are left
abbrev pub IsIn : {E : Type 0} → ℕ → List (SendPass E) → View E → List (SendPass E) → View E → Type 0
IsIn n all before left now = (now ≡ record before { handed = map posted_by (take n all) }) × (left ≡ drop n all)

-- the first pass that is left is that of the next sender
pub next_pass : {E : Type 0} (n : ℕ) (all left : List (SendPass E)) (before now : View E) (p : SendPass E) → IsIn n all before left now → slice_get left 0 ≡ Some p → slice_get all n ≡ Some p
next_pass n all left before now p h first = next_is all n p (ap (λ l. slice_get l 0) (sym h.1) ∙ first)

-- as many are in as its number says
pub next_number : {E : Type 0} (n : ℕ) (all left : List (SendPass E)) (before now : View E) (p : SendPass E) → IsIn n all before left now → slice_get left 0 ≡ Some p → n ≡ length now.handed
next_number {E} n all left before now p h first =
    sym (ap (λ (v : View E). length v.handed) h.0 ∙ length-map-take posted_by all n p (next_pass n all left before now p h first))

-- then it is in too
pub one_more : {E : Type 0} (n : ℕ) (all left left' : List (SendPass E)) (before now now' : View E) (p : SendPass E)
    → IsIn n all before left now → slice_get left 0 ≡ Some p → left' ≡ remove left 0 → now' ≡ handed_one now (view p.pass) → IsIn (n + 1) all before left' now'
one_more {E} n all left left' before now now' p h first rest is = (
  is ∙ ap (λ (v : View E). handed_one v (view p.pass)) h.0
      ∙ ap (λ l. record before { handed = l }) (sym (map_more posted_by all n p (next_pass n all left before now p h first))),
  rest ∙ ap (λ l. remove l 0) h.1 ∙ left_is all n,
)
