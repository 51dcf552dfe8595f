-- What is left, in ascending order of senders.
use Rattle.std.proofs.Common.{◌≡◌, ◌≤◌, ◌<◌, ◌∷◌, ◌++◌, ◌==◌, ◌⊎◌}
use Rattle.std.specs.List.{AllByRecursion}
use Rattle.naive_meaning.proofs.Common.{ℕ, zero, suc, List, [], Bool, true, false, cond, refl, sym, ◌∙◌, ap, subst, arith, inl, inr, cases_lt, eqb-true, eq-eqb, ne_eqb, Entry, by}
use Rattle.actor_theory.specs.Order.{ordered}

-- in ascending order of senders, from this one on
abbrev pub Rises : {C : Type 0} → ℕ → List (Entry C) → Type 0
Rises m [] = Unit {0}
Rises m (e ∷ es) = (m ≤ e.sender) × Rises e.sender es

-- no two neighbours stand in the other order
abbrev pub IsAscending : {C : Type 0} → List (Entry C) → Type 0
IsAscending {C} left = (front rest : List (Entry C)) (e f : Entry C) → left ≡ front ++ e ∷ f ∷ rest → e.sender ≤ f.sender

-- the entries of one sender rise
by-rises : {C : Type 0} (m n : ℕ) (q : List (Entry C)) → m ≤ n → Rises m (by n q)
by-rises m n [] le = tt
by-rises {C} m n (e ∷ es) le = go (λ k low. by-rises k n es low) (e.sender == n) refl
  where
    go : ((k : ℕ) → k ≤ n → Rises k (by n es)) → (b : Bool) → (e.sender == n) ≡ b → Rises m (cond b (e ∷ by n es) (by n es))
    go ih true i = let same = eqb-true e.sender n i in (omega arith, ih e.sender (omega arith))
    go ih false i = ih m le

-- and they are below the next one
by-below : {C : Type 0} (n : ℕ) (q : List (Entry C)) → AllByRecursion (λ e. e.sender < suc n) (by n q)
by-below n [] = tt
by-below {C} n (e ∷ es) = go (by-below n es) (e.sender == n) refl
  where
    go : AllByRecursion (λ e. e.sender < suc n) (by n es) → (b : Bool) → (e.sender == n) ≡ b → AllByRecursion (λ e. e.sender < suc n) (cond b (e ∷ by n es) (by n es))
    go ih true i = let same = eqb-true e.sender n i in (omega arith, ih)
    go ih false i = ih

-- two lists whose senders are below a bound
both-below : {C : Type 0} (n : ℕ) (xs ys : List (Entry C)) → AllByRecursion (λ e. e.sender < n) xs → AllByRecursion (λ e. e.sender < suc n) ys → AllByRecursion (λ e. e.sender < suc n) (xs ++ ys)
both-below n [] ys a b = b
both-below n (x ∷ xs) ys a b = let here = a.0 in (omega arith, both-below n xs ys a.1 b)

-- what is by sender is below the bound
ordered-below : {C : Type 0} (n : ℕ) (q : List (Entry C)) → AllByRecursion (λ e. e.sender < n) (ordered n q)
ordered-below zero q = tt
ordered-below (suc n) q = both-below n (ordered n q) (by n q) (ordered-below n q) (by-below n q)

-- a rising list, and one that rises from any sender of the first
rises-append : {C : Type 0} (m n : ℕ) (xs ys : List (Entry C)) → Rises m xs → AllByRecursion (λ e. e.sender < n) xs → m ≤ n → ((k : ℕ) → k ≤ n → Rises k ys) → Rises m (xs ++ ys)
rises-append m n [] ys a b le h = h m le
rises-append m n (x ∷ xs) ys a b le h = let here = b.0 in (a.0, rises-append x.sender n xs ys a.1 b.1 (omega arith) h)

-- what is by sender rises
ordered-rises : {C : Type 0} (n : ℕ) (q : List (Entry C)) → Rises 0 (ordered n q)
ordered-rises zero q = tt
ordered-rises (suc n) q = rises-append 0 n (ordered n q) (by n q) (ordered-rises n q) (ordered-below n q) (omega arith) (λ k low. by-rises k n q low)

-- what rises has no two neighbours in the other order
rises-ascending : {C : Type 0} (m : ℕ) (left : List (Entry C)) → Rises m left → IsAscending left
rises-ascending m [] h [] rest e f i = absurd (cc)
rises-ascending m [] h (x ∷ front) rest e f i = absurd (cc)
rises-ascending {C} m (a ∷ more) h [] rest e f i =
    let P : List (Entry C) → Type 0 = λ es. Rises m es in
    (subst P i h).1.0
rises-ascending m (a ∷ more) h (x ∷ front) rest e f i =
    let others : more ≡ front ++ e ∷ f ∷ rest = cc in
    rises-ascending a.sender more h.1 front rest e f others

-- what is by sender is ascending
pub ordered-ascending : {C : Type 0} (n : ℕ) (left : List (Entry C)) → left ≡ ordered n left → IsAscending left
ordered-ascending {C} n left h = let P : List (Entry C) → Type 0 = λ es. Rises 0 es in rises-ascending 0 left (subst P (sym h) (ordered-rises n left))

-- and the other way round
ascending-rises : {C : Type 0} (e : Entry C) (es : List (Entry C)) → IsAscending (e ∷ es) → Rises e.sender es
ascending-rises e [] h = tt
ascending-rises e (f ∷ fs) h = (h [] fs e f refl, ascending-rises f fs (λ front rest a b i. h (e ∷ front) rest a b (ap (λ es. e ∷ es) i)))

-- nothing rises below where it begins
ordered-none : {C : Type 0} (n m : ℕ) (es : List (Entry C)) → Rises m es → n ≤ m → ordered n es ≡ []
ordered-none zero m es h le = refl
ordered-none {C} (suc n) m es h le = ap (λ xs. xs ++ by n es) (ordered-none n m es h (omega arith)) ∙ none m es h le
  where
    none : (m : ℕ) (es : List (Entry C)) → Rises m es → suc n ≤ m → by n es ≡ []
    none m [] h le = refl
    none m (e ∷ es) h le = let here = h.0 in rw (ne_eqb e.sender n (λ i. omega arith)) (none e.sender es h.1 (omega arith))

-- an entry past the bound is passed over
ordered-past : {C : Type 0} (n : ℕ) (e : Entry C) (es : List (Entry C)) → n ≤ e.sender → ordered n (e ∷ es) ≡ ordered n es
ordered-past zero e es le = refl
ordered-past (suc n) e es le = rw (ne_eqb e.sender n (λ i. omega arith)) (ap (λ xs. xs ++ by n es) (ordered-past n e es (omega arith)))

-- the first of a rising list stays the first
ordered-cons : {C : Type 0} (n : ℕ) (e : Entry C) (es : List (Entry C)) → Rises e.sender es → e.sender < n → ordered n (e ∷ es) ≡ e ∷ ordered n es
ordered-cons zero e es h lt = absurd (omega arith)
ordered-cons {C} (suc n) e es h lt = go (λ low. ordered-cons n e es h low) (cases_lt e.sender n)
  where
    go : (e.sender < n → ordered n (e ∷ es) ≡ e ∷ ordered n es) → ((e.sender < n) ⊎ (n ≤ e.sender)) → ordered n (e ∷ es) ++ by n (e ∷ es) ≡ e ∷ (ordered n es ++ by n es)
    go ih (inl low) = rw (ne_eqb e.sender n (λ i. omega arith)) (ap (λ xs. xs ++ by n es) (ih low))
    go ih (inr le) =
        let same : e.sender ≡ n = omega arith in
        let none : ordered n es ≡ [] = ordered-none n e.sender es h le in
        rw (eq-eqb e.sender n same) (ap (λ xs. xs ++ e ∷ by n es) (ordered-past n e es le ∙ none) ∙ ap (λ xs. e ∷ (xs ++ by n es)) (sym none))

-- a rising list below the bound is by sender already
ordered-all : {C : Type 0} (n m : ℕ) (left : List (Entry C)) → Rises m left → AllByRecursion (λ e. e.sender < n) left → ordered n left ≡ left
ordered-all zero m [] h a = refl
ordered-all (suc n) m [] h a = ap (λ xs. xs ++ []) (ordered-all n m [] tt tt)
ordered-all n m (e ∷ es) h a = ordered-cons n e es h.1 a.0 ∙ ap (λ xs. e ∷ xs) (ordered-all n e.sender es h.1 a.1)

-- what is ascending is by sender
pub ascending-ordered : {C : Type 0} (n : ℕ) (left : List (Entry C)) → AllByRecursion (λ e. e.sender < n) left → IsAscending left → left ≡ ordered n left
ascending-ordered {C} n left a h = sym (ordered-all n 0 left (rises left h) a)
  where
    rises : (left : List (Entry C)) → IsAscending left → Rises 0 left
    rises [] h = tt
    rises (e ∷ es) h = (omega arith, ascending-rises e es h)
