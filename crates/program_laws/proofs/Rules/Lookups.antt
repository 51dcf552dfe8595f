-- The first item that passes a test, names that all differ, and numbers that are found among those visible.
use Rattle.program_laws.proofs.Common.{ℕ, zero, suc, length, map, List, [], Some, None, Bool, true, false, cond, not, is_some, Option, refl, ap, sym, ◌∙◌, slice_get, nat_lt, arith, list_any, position_or_len, bytes_eq, nat_tests, bytes_eq-Decides, or_parts, or_from, eq-eqb, Visible, visible_at, Scope, Seen, seen_of, seen, item_at}
use Rattle.std.proofs.Common.{◌≡◌, ◌+◌, ◌<◌, ◌≤◌, ◌==◌, ◌∷◌, ◌++◌, ◌||◌, position}
use Rattle.program_laws.proofs.Shapes.Lists.{none_isnt}
use Rattle.program_laws.proofs.Shapes.Monitors.{lt_more, zero_lt}

-- ---- truths

-- ---- the first that passes

-- the first item that passes a test
abbrev pub first_by : {A : Type 0} → (A → Bool) → List A → Option A
first_by q [] = None
first_by q (x ∷ xs) = cond (q x) (Some x) (first_by q xs)

item_behind : {A : Type 0} (x : A) (xs : List A) (b : Bool) (k : ℕ) → item_at (x ∷ xs) (cond b (Some (1 + k)) None) ≡ item_at xs (cond b (Some k) None)
item_behind x xs true k = let e : 1 + k ≡ suc k = omega arith in ap (slice_get (x ∷ xs)) e
item_behind x xs false k = refl

item_here : {A : Type 0} (x : A) (xs : List A) (b : Bool) (k n : ℕ) → item_at (x ∷ xs) (cond (nat_lt (cond (not b) (1 + k) 0) (suc n)) (Some (cond (not b) (1 + k) 0)) None) ≡ cond b (Some x) (item_at xs (cond (nat_lt k n) (Some k) None))
item_here x xs true k n = ap (λ (c : Bool). item_at (x ∷ xs) (cond c (Some 0) None)) (zero_lt n)
item_here x xs false k n = ap (λ (c : Bool). item_at (x ∷ xs) (cond c (Some (1 + k)) None)) (lt_more k n) ∙ item_behind x xs (nat_lt k n) k

-- it is the item at the first place that passes
pub item_first : {A : Type 0} (q : A → Bool) (xs : List A) → item_at xs (position q xs) ≡ first_by q xs
item_first q [] = refl
item_first q (x ∷ xs) = item_here x xs (q x) (position_or_len q xs) (length xs) ∙ ap (cond (q x) (Some x)) (item_first q xs)

-- whether a visible name is this one
abbrev pub is_called : List ℕ → Seen → Bool
is_called name s = bytes_eq s.name name

-- a visible name is the first that is called so
pub seen_first : (scope : Scope) (name : List ℕ) → seen scope name ≡ first_by (is_called name) scope.names
seen_first scope name = item_first (λ s. bytes_eq s.name name) scope.names

-- it stays the first among more
pub first_front : {A : Type 0} (q : A → Bool) (xs ys : List A) (x : A) → first_by q xs ≡ Some x → first_by q (xs ++ ys) ≡ Some x
first_front q [] ys x h = none_isnt x h
first_front q (y ∷ xs) ys x h = by (q y) (first_front q xs ys x) h
  where
    by : (b : Bool) → (first_by q xs ≡ Some x → first_by q (xs ++ ys) ≡ Some x) → cond b (Some y) (first_by q xs) ≡ Some x → cond b (Some y) (first_by q (xs ++ ys)) ≡ Some x
    by true f h = h
    by false f h = f h

-- the place of the first that passes
pub record FirstAt {A : Type 0} (q : A → Bool) (xs : List A) (x : A) : Type 0 where
  pub place : ℕ
  pub at : slice_get xs place ≡ Some x
  pub passes : q x ≡ true

first_more : {A : Type 0} (q : A → Bool) (y : A) (xs : List A) (x : A) → FirstAt q xs x → FirstAt q (y ∷ xs) x
first_more q y xs x h = record { place = suc h.place; at = h.at; passes = h.passes }

-- the first has a place, and passes
pub first_at : {A : Type 0} (q : A → Bool) (xs : List A) (x : A) → first_by q xs ≡ Some x → FirstAt q xs x
first_at q [] x h = none_isnt x h
first_at q (y ∷ xs) x h = by (q y) refl h (λ k. first_at q xs x k)
  where
    by : (b : Bool) → q y ≡ b → cond b (Some y) (first_by q xs) ≡ Some x → (first_by q xs ≡ Some x → FirstAt q xs x) → FirstAt q (y ∷ xs) x
    by true is h f = let e : y ≡ x = cc in record { place = 0; at = h; passes = ap q (sym e) ∙ is }
    by false is h f = first_more q y xs x (f h)

-- where there is no first, none passes
pub first_none : {A : Type 0} (q : A → Bool) (xs : List A) → first_by q xs ≡ None → list_any q xs ≡ false
first_none q [] h = refl
first_none q (y ∷ xs) h = by (q y) (first_none q xs) h
  where
    by : (b : Bool) → (first_by q xs ≡ None → list_any q xs ≡ false) → cond b (Some y) (first_by q xs) ≡ None → (b || list_any q xs) ≡ false
    by true f h = cc
    by false f h = f h

-- a name without a place is none of those visible
pub not_seen : (scope : Scope) (name : List ℕ) → is_some (seen_of scope name) ≡ false → list_any (is_called name) scope.names ≡ false
not_seen scope name h = first_none (is_called name) scope.names (sym (seen_first scope name) ∙ none (seen_of scope name) h)
  where
    none : (o : Option ℕ) → is_some o ≡ false → item_at scope.names o ≡ None
    none None h = refl
    none (Some n) h = cc

-- ---- names that all differ

-- a name is itself
pub bytes_same : (name : List ℕ) → bytes_eq name name ≡ true
bytes_same name = (bytes_eq-Decides name name).1 refl

-- of two names that differ each differs from the other
pub bytes_swap : (a b : List ℕ) → bytes_eq a b ≡ false → bytes_eq b a ≡ false
bytes_swap a b h = by (bytes_eq b a) refl
  where
    by : (c : Bool) → bytes_eq b a ≡ c → c ≡ false
    by false is = refl
    by true is = let e : b ≡ a = (bytes_eq-Decides b a).0 is in let k : bytes_eq a b ≡ true = ap (λ x. bytes_eq x b) (sym e) ∙ bytes_same b in cc

-- the names that are visible
abbrev pub names_of : List Seen → List (List ℕ)
names_of seens = map (λ s. s.name) seens

-- the names of two lists, one behind the other
pub names_append : (xs ys : List Seen) → names_of (xs ++ ys) ≡ names_of xs ++ names_of ys
names_append [] ys = refl
names_append (x ∷ xs) ys = ap (λ ns. x.name ∷ ns) (names_append xs ys)

-- whether a name is one of these
abbrev pub is_there : List ℕ → List (List ℕ) → Bool
is_there name names = list_any (λ n. bytes_eq n name) names

-- names of which no two are the same
abbrev pub Differ : List (List ℕ) → Type 0
Differ [] = Unit {0}
Differ (n ∷ ns) = (is_there n ns ≡ false) × Differ ns

-- a name that none is called is none of their names
pub not_there : (seens : List Seen) (name : List ℕ) → list_any (is_called name) seens ≡ false → is_there name (names_of seens) ≡ false
not_there [] name h = refl
not_there (s ∷ seens) name h = let p = or_parts (bytes_eq s.name name) (list_any (is_called name) seens) h in or_from (bytes_eq s.name name) (is_there name (names_of seens)) p.0 (not_there seens name p.1)

there_at : (seens : List Seen) (name : List ℕ) (i : ℕ) (x : Seen) → is_there name (names_of seens) ≡ false → slice_get seens i ≡ Some x → bytes_eq x.name name ≡ false
there_at [] name i x h at = none_isnt x at
there_at (s ∷ seens) name zero x h at = let e : s ≡ x = cc in ap (λ (y : Seen). bytes_eq y.name name) (sym e) ∙ (or_parts (bytes_eq s.name name) (is_there name (names_of seens)) h).0
there_at (s ∷ seens) name (suc i) x h at = there_at seens name i x (or_parts (bytes_eq s.name name) (is_there name (names_of seens)) h).1 at

-- each is the first of its name
pub first_of_name : (seens : List Seen) (i : ℕ) (x : Seen) → Differ (names_of seens) → slice_get seens i ≡ Some x → first_by (is_called x.name) seens ≡ Some x
first_of_name [] i x h at = none_isnt x at
first_of_name (s ∷ seens) zero x h at = let e : s ≡ x = cc in ap (λ (b : Bool). cond b (Some s) (first_by (is_called x.name) seens)) (ap (λ (y : Seen). bytes_eq y.name x.name) e ∙ bytes_same x.name) ∙ at
first_of_name (s ∷ seens) (suc i) x h at = ap (λ (b : Bool). cond b (Some s) (first_by (is_called x.name) seens)) (bytes_swap x.name s.name (there_at seens s.name i x h.0 at)) ∙ first_of_name seens i x h.1 at

-- where names differ, each is found by its own
pub seen_at : (scope : Scope) (i : ℕ) (x : Seen) → Differ (names_of scope.names) → slice_get scope.names i ≡ Some x → seen scope x.name ≡ Some x
seen_at scope i x h at = seen_first scope x.name ∙ first_of_name scope.names i x h at

-- a name is none of those with one more
pub any_last : (names : List (List ℕ)) (n m : List ℕ) → is_there m names ≡ false → bytes_eq n m ≡ false → is_there m (names ++ n ∷ []) ≡ false
any_last [] n m h k = or_from (bytes_eq n m) false k refl
any_last (x ∷ names) n m h k = let p = or_parts (bytes_eq x m) (is_there m names) h in or_from (bytes_eq x m) (is_there m (names ++ n ∷ [])) p.0 (any_last names n m p.1 k)

-- names with a new one all differ
pub differ_more : (names : List (List ℕ)) (n : List ℕ) → Differ names → is_there n names ≡ false → Differ (names ++ n ∷ [])
differ_more [] n h k = (refl, tt)
differ_more (x ∷ names) n h k =
    let p = or_parts (bytes_eq x n) (is_there n names) k in
    (any_last names n x h.0 (bytes_swap x n p.0), differ_more names n h.1 p.1)

-- ---- numbers

-- a lesser number is another
pub below_isnt : (a b : ℕ) → a < b → (a == b) ≡ false
below_isnt a b h = grind (arith, nat_tests)

-- those visible have numbers below this one
abbrev pub Below : ℕ → List Visible → Type 0
Below n [] = Unit {0}
Below n (v ∷ vs) = (v.number < n) × Below n vs

-- they are below a greater number too
pub below_more : (n m : ℕ) (vs : List Visible) → n ≤ m → Below n vs → Below m vs
below_more n m [] le h = tt
below_more n m (v ∷ vs) le h = (let p = h.0 in omega arith, below_more n m vs le h.1)

-- those of two lists
pub below_both : (n : ℕ) (vs ws : List Visible) → Below n vs → Below n ws → Below n (vs ++ ws)
below_both n [] ws h k = k
below_both n (v ∷ vs) ws h k = (h.0, below_both n vs ws h.1 k)

-- one more, behind those below it, is found
pub found_behind : (n : ℕ) (vs ws : List Visible) → Below n vs → visible_at (vs ++ ws) n ≡ visible_at ws n
found_behind n [] ws h = refl
found_behind n (v ∷ vs) ws h = ap (λ (b : Bool). cond b (Some v) (visible_at (vs ++ ws) n)) (below_isnt v.number n h.0) ∙ found_behind n vs ws h.1

-- the first with a number is found by it
pub found_here : (n : ℕ) (v : Visible) (vs : List Visible) → v.number ≡ n → visible_at (v ∷ vs) n ≡ Some v
found_here n v vs h = ap (λ (b : Bool). cond b (Some v) (visible_at vs n)) (eq-eqb v.number n h)

-- what is found is found among more
pub found_front : (n : ℕ) (vs ws : List Visible) (x : Visible) → visible_at vs n ≡ Some x → visible_at (vs ++ ws) n ≡ Some x
found_front n [] ws x h = none_isnt x h
found_front n (v ∷ vs) ws x h = by (v.number == n) (found_front n vs ws x) h
  where
    by : (b : Bool) → (visible_at vs n ≡ Some x → visible_at (vs ++ ws) n ≡ Some x) → cond b (Some v) (visible_at vs n) ≡ Some x → cond b (Some v) (visible_at (vs ++ ws) n) ≡ Some x
    by true f h = h
    by false f h = f h
