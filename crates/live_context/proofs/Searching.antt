-- What is found by halves among ascending numbers.
use Rattle.std.proofs.Common.{◌<◌, ◌≤◌, ◌∷◌, ◌≡◌}
use Rattle.std.specs.Prelude.{slice_index_or, nat_lt}
use Rattle.std.specs.List.{remove}
use Rattle.std.specs.List.Sorted.{IsPartitionedBy, IsPartitionPoint}
use Rattle.live_context.proofs.Common.{ℕ, zero, suc, Bool, true, false, cond, not, List, [], length, Option, Some, None, slice_get, filter, find, eqb, refl, sym, ap, ◌∙◌, arith, nat_tests, Ascend, below}

abbrev pub before : {A : Type 0} → (A → ℕ) → ℕ → A → Bool
before n k x = nat_lt (n x) k

abbrev pub has : {A : Type 0} → (A → ℕ) → ℕ → A → Bool
has n k x = eqb (n x) k

abbrev pub hasnt : {A : Type 0} → (A → ℕ) → ℕ → A → Bool
hasnt n k x = not (eqb (n x) k)

-- ---- those in front

above : {A : Type 0} (n : A → ℕ) (low : ℕ) (xs : List A) (j : ℕ) (d : A) → Ascend n low xs → j < length xs → low < n (slice_index_or xs j d)
above n low [] j d a h = absurd (omega arith)
above n low (x ∷ xs) zero d a h = a.0
above n low (x ∷ xs) (suc j) d a h = let first : low < n x = a.0 in let rest : n x < n (slice_index_or xs j d) = above n (n x) xs j d a.1 (omega arith) in omega arith

less_less : (a b c : ℕ) → a < b → nat_lt b c ≡ true → nat_lt a c ≡ true
less_less a b c h e = grind (arith, nat_tests)

pub before_first : {A : Type 0} (n : A → ℕ) (low k : ℕ) (xs : List A) → Ascend n low xs → IsPartitionedBy (before n k) xs
before_first n low k [] a i j d ij jn e = absurd (omega arith)
before_first n low k (x ∷ xs) a zero zero d ij jn e = e
before_first n low k (x ∷ xs) a zero (suc j) d ij jn e = less_less (n x) (n (slice_index_or xs j d)) k (above n (n x) xs j d a.1 (omega arith)) e
before_first n low k (x ∷ xs) a (suc i) zero d ij jn e = absurd (omega arith)
before_first n low k (x ∷ xs) a (suc i) (suc j) d ij jn e = before_first n (n x) k xs a.1 i j d (omega arith) (omega arith) e

pub counted : {A : Type 0} (n : A → ℕ) (k : ℕ) (xs : List A) (m : ℕ) → m ≤ length xs → IsPartitionPoint (λ y. before n k y ≡ true) (λ y. before n k y ≡ false) xs m → m ≡ below n k xs
counted n k [] m h at = omega arith
counted n k (x ∷ xs) zero h at = let first : before n k x ≡ false = at.1 0 x (omega arith) (omega arith) in rw first refl
counted n k (x ∷ xs) (suc m) h at =
    let first : before n k x ≡ true = at.0 0 x (omega arith) (omega arith) in
    let rest : m ≡ below n k xs = counted n k xs m (omega arith) ((λ i d low high. at.0 (suc i) d (omega arith) (omega arith)), (λ i d low high. at.1 (suc i) d (omega arith) (omega arith))) in
    rw first (ap suc rest)

-- ---- the one with a number

lesser : (a b : ℕ) → nat_lt a b ≡ true → eqb a b ≡ false
lesser a b h = grind (arith, nat_tests)

greater : (a b : ℕ) → b < a → eqb a b ≡ false
greater a b h = grind (arith, nat_tests)

no_less : (a b : ℕ) → nat_lt a b ≡ false → b ≤ a
no_less a b h = grind (arith, nat_tests)

-- none has a number that isn't above the bound
none_above : {A : Type 0} (n : A → ℕ) (low k : ℕ) (xs : List A) → k ≤ low → Ascend n low xs → find (has n k) xs ≡ None
none_above n low k [] h a = refl
none_above n low k (x ∷ xs) h a = let first : low < n x = a.0 in let other : has n k x ≡ false = greater (n x) k (omega arith) in rw other (none_above n (n x) k xs (omega arith) a.1)

pub all_stay : {A : Type 0} (n : A → ℕ) (low k : ℕ) (xs : List A) → k ≤ low → Ascend n low xs → xs ≡ filter (hasnt n k) xs
all_stay n low k [] h a = refl
all_stay n low k (x ∷ xs) h a = let first : low < n x = a.0 in let other : has n k x ≡ false = greater (n x) k (omega arith) in rw other (ap (λ ys. x ∷ ys) (all_stay n (n x) k xs (omega arith) a.1))

-- one that has this number
abbrev pub only : {A : Type 0} → (A → ℕ) → ℕ → Option A → Option A
only n k None = None
only n k (Some x) = cond (has n k x) (Some x) None

-- it stands behind those with lesser numbers
pub found_below : {A : Type 0} (n : A → ℕ) (low k : ℕ) (xs : List A) → Ascend n low xs → only n k (slice_get xs (below n k xs)) ≡ find (has n k) xs
found_below n low k [] a = refl
found_below n low k (x ∷ xs) a = go (found_below n (n x) k xs a.1) (before n k x) refl
  where
    last : (b : Bool) → before n k x ≡ false → cond b (Some x) None ≡ cond b (Some x) (find (has n k) xs)
    last true e = refl
    last false e = sym (none_above n (n x) k xs (no_less (n x) k e) a.1)

    go : only n k (slice_get xs (below n k xs)) ≡ find (has n k) xs → (b : Bool) → before n k x ≡ b → only n k (slice_get (x ∷ xs) (cond b (suc (below n k xs)) 0)) ≡ find (has n k) (x ∷ xs)
    go rest true e = let f : has n k x ≡ false = lesser (n x) k e in rw f rest
    go rest false e = last (has n k x) e

-- without it
pub removed_below : {A : Type 0} (n : A → ℕ) (low k : ℕ) (xs : List A) (y : A) → Ascend n low xs → slice_get xs (below n k xs) ≡ Some y → has n k y ≡ true → remove xs (below n k xs) ≡ filter (hasnt n k) xs
removed_below n low k [] y a is same = absurd (cc)
removed_below n low k (x ∷ xs) y a is same = go (removed_below n (n x) k xs y a.1) (before n k x) refl is
  where
    go : (slice_get xs (below n k xs) ≡ Some y → has n k y ≡ true → remove xs (below n k xs) ≡ filter (hasnt n k) xs) → (b : Bool) → before n k x ≡ b → slice_get (x ∷ xs) (cond b (suc (below n k xs)) 0) ≡ Some y → remove (x ∷ xs) (cond b (suc (below n k xs)) 0) ≡ filter (hasnt n k) (x ∷ xs)
    go rest true e h = let f : has n k x ≡ false = lesser (n x) k e in rw f (ap (λ ys. x ∷ ys) (rest h same))
    go rest false e h = let f : has n k x ≡ true = ap (has n k) (let s : x ≡ y = cc in s) ∙ same in rw f (all_stay n (n x) k xs (no_less (n x) k e) a.1)

-- where there is none, all stay
pub missing_below : {A : Type 0} (n : A → ℕ) (low k : ℕ) (xs : List A) → Ascend n low xs → find (has n k) xs ≡ None → xs ≡ filter (hasnt n k) xs
missing_below n low k [] a none = refl
missing_below n low k (x ∷ xs) a none = go (missing_below n (n x) k xs a.1) (has n k x) refl none
  where
    go : (find (has n k) xs ≡ None → xs ≡ filter (hasnt n k) xs) → (b : Bool) → has n k x ≡ b → cond b (Some x) (find (has n k) xs) ≡ None → (x ∷ xs) ≡ cond (not b) (x ∷ filter (hasnt n k) xs) (filter (hasnt n k) xs)
    go rest true e h = absurd (cc)
    go rest false e h = ap (λ ys. x ∷ ys) (rest h)
