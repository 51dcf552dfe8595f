-- Lists place by place: what a longer list keeps of a shorter one, and what holds of each item.
use Rattle.std.proofs.Common.{◌≡◌, ◌+◌, ◌<◌, ◌≤◌, ◌∷◌, ◌++◌, if◌then◌else◌, ◌&&◌}
use Rattle.program_laws.proofs.Common.{ℕ, zero, suc, length, take, map, List, [], Some, None, Bool, true, false, cond, refl, sym, ap, subst, ◌∙◌, arith, slice_get, insert, filter, inl, inr, AllByRecursion, list_all, length-insert, slice_get_within, and_parts, cases_lt, Spot, told, when}
use Rattle.std.specs.Prelude.{◌⊎◌}

-- ---- truths

pub both_true : {a b : Bool} → a ≡ true → b ≡ true → (a && b) ≡ true
both_true {a} {b} h k = rw (h, k) refl

-- ---- no fault

pub no_both : {A : Type 0} (a b : List A) → a ++ b ≡ [] → (a ≡ []) × (b ≡ [])
no_both [] b h = (refl, h)
no_both (x ∷ a) b h = cc

pub no_told : (spot : Spot) (codes : List ℕ) → told spot codes ≡ [] → codes ≡ []
no_told spot [] h = refl
no_told spot (code ∷ codes) h = cc

pub no_when : (b : Bool) (code : ℕ) → when b code ≡ [] → b ≡ false
no_when true code h = cc
no_when false code h = refl

pub no_if : (b : Bool) (code : ℕ) → (if b then code ∷ [] else []) ≡ [] → b ≡ false
no_if true code h = cc
no_if false code h = refl

pub no_unless : (b : Bool) (code : ℕ) → (if b then [] else code ∷ []) ≡ [] → b ≡ true
no_unless true code h = refl
no_unless false code h = cc

pub none_if : (b : Bool) (code : ℕ) → (if b then Some code else None) ≡ None → b ≡ false
none_if true code h = cc
none_if false code h = refl

pub none_unless : (b : Bool) (code : ℕ) → (if b then None else Some code) ≡ None → b ≡ true
none_unless true code h = refl
none_unless false code h = cc

pub no_map : {A B : Type 0} (f : A → B) (xs : List A) → map f xs ≡ [] → xs ≡ []
no_map f [] h = refl
no_map f (x ∷ xs) h = cc

-- ---- places

pub none_isnt : {A : Type 0} {B : Type 0} (x : A) → None ≡ Some x → B
none_isnt x h = cc

pub slice_some : {A : Type 0} (xs : List A) (n : ℕ) → n < length xs → (x : A) × (slice_get xs n ≡ Some x)
slice_some [] n h = absurd (omega arith)
slice_some (x ∷ xs) zero h = (x, refl)
slice_some (x ∷ xs) (suc n) h = slice_some xs n (omega arith)

-- nothing stands past the end
pub past : {A B : Type 0} (i n : ℕ) (xs : List A) (x : A) → length xs ≤ n → n ≤ i → slice_get xs i ≡ Some x → B
past i n xs x few from at = let lt = slice_get_within xs i x at in absurd (omega arith)

-- the one behind a list
pub last_is : {A : Type 0} (xs : List A) (y x : A) (i : ℕ) → length xs ≤ i → slice_get (xs ++ y ∷ []) i ≡ Some x → (y ≡ x) × (i ≡ length xs)
last_is [] y x zero le at = (cc, refl)
last_is [] y x (suc i) le at = none_isnt x at
last_is (z ∷ xs) y x zero le at = absurd (omega arith)
last_is (z ∷ xs) y x (suc i) le at = let p = last_is xs y x i (omega arith) at in let e = p.1 in (p.0, omega (arith, e))

pub get_front : {A : Type 0} (xs ys : List A) (i : ℕ) (x : A) → slice_get xs i ≡ Some x → slice_get (xs ++ ys) i ≡ Some x
get_front [] ys i x h = none_isnt x h
get_front (y ∷ xs) ys zero x h = h
get_front (y ∷ xs) ys (suc i) x h = get_front xs ys i x h

pub get_behind : {A : Type 0} (xs ys : List A) (i : ℕ) → slice_get (xs ++ ys) (length xs + i) ≡ slice_get ys i
get_behind [] ys i = let e : 0 + i ≡ i = omega arith in ap (slice_get ys) e
get_behind (x ∷ xs) ys i = let e : length (x ∷ xs) + i ≡ suc (length xs + i) = omega arith in ap (slice_get (x ∷ xs ++ ys)) e ∙ get_behind xs ys i

pub get_take : {A : Type 0} (n : ℕ) (xs : List A) (i : ℕ) → i < n → slice_get (take n xs) i ≡ slice_get xs i
get_take zero xs i h = absurd (omega arith)
get_take (suc n) [] i h = refl
get_take (suc n) (x ∷ xs) zero h = refl
get_take (suc n) (x ∷ xs) (suc i) h = get_take n xs i (omega arith)

pub insert_at : {A : Type 0} (n : ℕ) (xs : List A) (x : A) → n ≤ length xs → slice_get (insert xs n x) n ≡ Some x
insert_at zero [] x h = refl
insert_at zero (y ∷ xs) x h = refl
insert_at (suc n) [] x h = absurd (omega arith)
insert_at (suc n) (y ∷ xs) x h = insert_at n xs x (omega arith)

pub insert_above : {A : Type 0} (n : ℕ) (xs : List A) (x : A) (i : ℕ) → n ≤ i → n ≤ length xs → slice_get (insert xs n x) (suc i) ≡ slice_get xs i
insert_above zero [] x i h k = refl
insert_above zero (y ∷ xs) x i h k = refl
insert_above (suc n) [] x i h k = absurd (omega arith)
insert_above (suc n) (y ∷ xs) x zero h k = absurd (omega arith)
insert_above (suc n) (y ∷ xs) x (suc i) h k = insert_above n xs x i (omega arith) (omega arith)

-- a longer list that has at each place what the shorter one has there
pub record Extends {A : Type 0} (old new : List A) : Type 0 where
  pub long : length old ≤ length new
  pub at : (i : ℕ) (x : A) → slice_get old i ≡ Some x → slice_get new i ≡ Some x

pub extends_same : {A : Type 0} (xs : List A) → Extends xs xs
extends_same xs = record { long = omega arith; at = λ i x h. h }

pub extends_on : {A : Type 0} {a b c : List A} → Extends a b → Extends b c → Extends a c
extends_on {a = a} {b = b} {c = c} h k = record { long = let p = h.long in let q = k.long in omega arith; at = λ i x e. k.at i x (h.at i x e) }

long_front : {A : Type 0} (xs ys : List A) → length xs ≤ length (xs ++ ys)
long_front [] ys = omega arith
long_front (x ∷ xs) ys = let h = long_front xs ys in omega arith

pub extends_front : {A : Type 0} (xs ys : List A) → Extends xs (xs ++ ys)
extends_front xs ys = record { long = long_front xs ys; at = get_front xs ys }

pub extends_insert : {A : Type 0} {old new : List A} (x : A) → Extends old new → Extends old (insert new (length old) x)
extends_insert {A = A} {old = old} {new = new} x h = record {
  long = let p = h.long in let e : length (insert new (length old) x) ≡ length new + 1 = length-insert new (length old) x h.long in omega arith;
  at = λ i y e. let lt = slice_get_within old i y e in get_front (take (length old) new) _ i y (get_take (length old) new i lt ∙ h.at i y e);
}

-- what holds from a place on of a list, and of all that a longer one has behind it, holds from that place on of the longer one
pub join : {A : Type 0} (P : ℕ → A → Type 0) (a : ℕ) (xs ys : List A) → Extends xs ys → ((k : ℕ) (x : A) → a ≤ k → slice_get xs k ≡ Some x → P k x) → ((k : ℕ) (x : A) → length xs ≤ k → slice_get ys k ≡ Some x → P k x) → (k : ℕ) (x : A) → a ≤ k → slice_get ys k ≡ Some x → P k x
join P a xs ys e first second k x from at = by (cases_lt k (length xs))
  where
    by : ((k < length xs) ⊎ (length xs ≤ k)) → P k x
    by (inr le) = second k x le at
    by (inl lt) =
        let y = slice_some xs k lt in
        let same : Some y.0 ≡ Some x = sym (e.at k y.0 y.1) ∙ at in
        let is : y.0 ≡ x = cc in
        subst (P k) is (first k y.0 from y.1)

-- what holds of the last and of those behind it holds of all behind those before
pub behind_last : {A : Type 0} (P : A → Type 0) (old mid new : List A) (y : A) → mid ≡ old ++ y ∷ [] → Extends mid new → P y → ((i : ℕ) (x : A) → length mid ≤ i → slice_get new i ≡ Some x → P x) → (i : ℕ) (x : A) → length old ≤ i → slice_get new i ≡ Some x → P x
behind_last P old mid new y is more good others = join (λ i x. P x) (length old) mid new more (λ i x from at. subst P (last_is old y x i from (ap (λ xs. slice_get xs i) (sym is) ∙ at)).0 good) others

-- ---- each item

pub all_of_same : {A : Type 0} {P Q : A → Type 0} (xs : List A) → ((x : A) → P x → Q x) → AllByRecursion P xs → AllByRecursion Q xs
all_of_same [] f h = tt
all_of_same (x ∷ xs) f h = (f x h.0, all_of_same xs f h.1)

pub all_pairs : {A : Type 0} (P Q : A → Type 0) (xs : List A) → AllByRecursion P xs → AllByRecursion Q xs → AllByRecursion (λ x. P x × Q x) xs
all_pairs P Q [] h k = tt
all_pairs P Q (x ∷ xs) h k = ((h.0, k.0), all_pairs P Q xs h.1 k.1)

pub all_append : {A : Type 0} (P : A → Type 0) (xs ys : List A) → AllByRecursion P xs → AllByRecursion P ys → AllByRecursion P (xs ++ ys)
all_append P [] ys h k = k
all_append P (x ∷ xs) ys h k = (h.0, all_append P xs ys h.1 k)

pub all_take : {A : Type 0} (P : A → Type 0) (n : ℕ) (xs : List A) → AllByRecursion P xs → AllByRecursion P (take n xs)
all_take P zero [] h = tt
all_take P zero (x ∷ xs) h = tt
all_take P (suc n) [] h = tt
all_take P (suc n) (x ∷ xs) h = (h.0, all_take P n xs h.1)

pub all_map : {A B : Type 0} (P : B → Type 0) (f : A → B) (xs : List A) → AllByRecursion (λ x. P (f x)) xs → AllByRecursion P (map f xs)
all_map P f [] h = tt
all_map P f (x ∷ xs) h = (h.0, all_map P f xs h.1)

pub all_at : {A : Type 0} (P : A → Type 0) (xs : List A) (i : ℕ) (x : A) → AllByRecursion P xs → slice_get xs i ≡ Some x → P x
all_at P [] i x h e = none_isnt x e
all_at P (y ∷ xs) zero x h e = let same : y ≡ x = cc in subst P same h.0
all_at P (y ∷ xs) (suc i) x h e = all_at P xs i x h.1 e

pub all_by_place : {A : Type 0} {P : A → Type 0} (xs : List A) → ((i : ℕ) (x : A) → slice_get xs i ≡ Some x → P x) → AllByRecursion P xs
all_by_place [] f = tt
all_by_place (x ∷ xs) f = (f 0 x refl, all_by_place xs (λ i y e. f (suc i) y e))

pub every_true : {A : Type 0} (test : A → Bool) (xs : List A) → AllByRecursion (λ x. test x ≡ true) xs → list_all test xs ≡ true
every_true test [] h = refl
every_true test (x ∷ xs) h = both_true h.0 (every_true test xs h.1)

pub true_every : {A : Type 0} (test : A → Bool) (xs : List A) → list_all test xs ≡ true → AllByRecursion (λ x. test x ≡ true) xs
true_every test [] h = tt
true_every test (x ∷ xs) h = let p = and_parts (test x) (list_all test xs) h in (p.0, true_every test xs p.1)

pub list_all_both : {A : Type 0} (test : A → Bool) (xs ys : List A) → list_all test xs ≡ true → list_all test ys ≡ true → list_all test (xs ++ ys) ≡ true
list_all_both test [] ys h k = k
list_all_both test (x ∷ xs) ys h k = let p = and_parts (test x) (list_all test xs) h in both_true p.0 (list_all_both test xs ys p.1 k)

-- what passes a filter has a place among what it keeps
kept_here : {A : Type 0} (p : A → Bool) (whole : List A) (x : A) (xs : List A) (b : Bool) → p x ≡ b → ((i : ℕ) (y : A) → slice_get (cond b (x ∷ filter p xs) (filter p xs)) i ≡ Some y → (j : ℕ) × (slice_get whole j ≡ Some y)) → (p x ≡ true → (j : ℕ) × (slice_get whole j ≡ Some x)) × ((i : ℕ) (y : A) → slice_get (filter p xs) i ≡ Some y → (j : ℕ) × (slice_get whole j ≡ Some y))
kept_here p whole x xs true is f = (λ h. f 0 x refl, λ i y e. f (suc i) y e)
kept_here p whole x xs false is f = (λ h. cc, f)

kept_from : {A : Type 0} (p : A → Bool) (whole xs : List A) → ((i : ℕ) (x : A) → slice_get (filter p xs) i ≡ Some x → (j : ℕ) × (slice_get whole j ≡ Some x)) → AllByRecursion (λ x. p x ≡ true → (j : ℕ) × (slice_get whole j ≡ Some x)) xs
kept_from p whole [] f = tt
kept_from p whole (x ∷ xs) f = let h = kept_here p whole x xs (p x) refl f in (h.0, kept_from p whole xs h.1)

pub kept : {A : Type 0} (p : A → Bool) (xs : List A) → AllByRecursion (λ x. p x ≡ true → (j : ℕ) × (slice_get (filter p xs) j ≡ Some x)) xs
kept p xs = kept_from p (filter p xs) xs (λ i x e. (i, e))

-- and what is kept passes it
kept_pass : {A : Type 0} (P : A → Type 0) (p : A → Bool) (x : A) (xs : List A) (b : Bool) → p x ≡ b → P x → AllByRecursion (λ x. P x × (p x ≡ true)) (filter p xs) → AllByRecursion (λ x. P x × (p x ≡ true)) (cond b (x ∷ filter p xs) (filter p xs))
kept_pass P p x xs true is h rest = ((h, is), rest)
kept_pass P p x xs false is h rest = rest

pub all_filter : {A : Type 0} (P : A → Type 0) (p : A → Bool) (xs : List A) → AllByRecursion P xs → AllByRecursion (λ x. P x × (p x ≡ true)) (filter p xs)
all_filter P p [] h = tt
all_filter P p (x ∷ xs) h = kept_pass P p x xs (p x) refl h.0 (all_filter P p xs h.1)
