-- What is left, in order of senders.
use Rattle.std.proofs.Common.{◌≡◌, ◌≤◌, ◌<◌, ◌∷◌, ◌++◌, ◌==◌, ◌⊎◌}
use Rattle.actor_theory.proofs.Common.{ℕ, zero, suc, List, [], Bool, true, false, cond, refl, sym, ◌∙◌, ap, append-nil, arith, inl, inr, map, eqb-true, cases_lt, Entry, Language, naive, sends, by, World, IsFaithfulRun, left_of, lifted}
use Rattle.actor_theory.specs.Order.{ordered}
use Rattle.actor_theory.proofs.Lists.{by-append, by-cons, by-one_other}
use Rattle.actor_theory.proofs.Given.{both-nil}
use Rattle.actor_theory.proofs.Scheduled.{senders-from_by, sends-none}
use Rattle.actor_theory.proofs.Beside.{by-by, begins-more}

pub by-by_other : {C : Type 0} (s t : ℕ) (es : List (Entry C)) → (s ≡ t → ⊥) → by s (by t es) ≡ []
by-by_other s t [] h = refl
by-by_other {C} s t (e ∷ es) h = go (by-by_other s t es h) (e.sender == t) refl
  where
    go : by s (by t es) ≡ [] → (b : Bool) → (e.sender == t) ≡ b → by s (cond b (e ∷ by t es) (by t es)) ≡ []
    go ih true i = by-cons s e (by t es) ∙ rw (by-one_other s e (λ j. h (sym j ∙ eqb-true e.sender t i)), ih) refl
    go ih false i = ih

by-ordered_high : {C : Type 0} (n s : ℕ) (q : List (Entry C)) → n ≤ s → by s (ordered n q) ≡ []
by-ordered_high zero s q le = refl
by-ordered_high (suc n) s q le =
    let other : s ≡ n → ⊥ = λ i. omega arith in
    by-append s (ordered n q) (by n q) ∙ rw (by-ordered_high n s q (omega arith), by-by_other s n q other) refl

-- the entries of a sender stay, in their order
pub by-ordered : {C : Type 0} (n s : ℕ) (q : List (Entry C)) → s < n → by s (ordered n q) ≡ by s q
by-ordered zero s q lt = absurd (omega arith)
by-ordered {C} (suc n) s q lt = by-append s (ordered n q) (by n q) ∙ go (λ low. by-ordered n s q low) (cases_lt s n)
  where
    go : (s < n → by s (ordered n q) ≡ by s q) → ((s < n) ⊎ (n ≤ s)) → by s (ordered n q) ++ by s (by n q) ≡ by s q
    go ih (inl low) = let other : s ≡ n → ⊥ = λ i. omega arith in rw (ih low, by-by_other s n q other) (append-nil (by s q))
    go ih (inr le) = let same : s ≡ n = omega arith in rw (same, by-ordered_high n n q (omega arith)) (by-by n q)

ordered-below : {C : Type 0} (m n : ℕ) (q : List (Entry C)) → m ≤ n → ordered m (ordered n q) ≡ ordered m q
ordered-below zero n q le = refl
ordered-below (suc m) n q le = ap (λ es. es ++ by m (ordered n q)) (ordered-below m n q (omega arith)) ∙ ap (λ es. ordered m q ++ es) (by-ordered n m q (omega arith))

-- what is in order stays as it is
pub ordered-twice : {C : Type 0} (n : ℕ) (q : List (Entry C)) → ordered n (ordered n q) ≡ ordered n q
ordered-twice n q = ordered-below n n q (omega arith)

pub ordered-nil : {C : Type 0} (n : ℕ) → ◌≡◌ {A = List (Entry C)} (ordered n []) []
ordered-nil zero = refl
ordered-nil (suc n) = append-nil (ordered n []) ∙ ordered-nil n

-- faithful logs stay faithful with their queues in order of senders
pub ordered-faithful : {S C : Type 0} (L : Language S C) (items : List C) (w v : World C) → ((d : ℕ) → v.log d ≡ w.log d) → ((d : ℕ) → v.queue d ≡ left_of L w d) → IsFaithfulRun L items w → IsFaithfulRun L items v
ordered-faithful {S} {C} L items w v logs lefts h = record {
  delivered = record { each = each; senders = λ d. senders-from_by L.contexts (v.log d ++ v.queue d) (λ s lt. each s d ∙ sends-none L items s d (v.log s) lt (logs s ∙ h.others s lt)) };
  unspent = λ d. rw (logs d) (h.unspent d);
  others = λ d lt. logs d ∙ h.others d lt;
  boot = begins-more L w v (λ d. ([], logs d ∙ sym (append-nil (w.log d)))) h.boot;
  nothing_left = λ d le now. lefts d ∙ ap (ordered (suc L.contexts)) (h.nothing_left d le (sym (ap (λ l. L.is_spent (naive L d l).state) (logs d)) ∙ now)) ∙ ordered-nil (suc L.contexts);
}
  where
    reached : (s d : ℕ) → ((L.contexts < s) ⊎ (s ≤ L.contexts)) → by s (w.log d ++ left_of L w d) ≡ sends L items s d (w.log s)
    reached s d (inr le) =
        by-append s (w.log d) (left_of L w d) ∙ ap (λ es. by s (w.log d) ++ es) (by-ordered (suc L.contexts) s (w.queue d) (omega arith)) ∙ sym (by-append s (w.log d) (w.queue d)) ∙ h.delivered.each s d
    reached s d (inl lt) =
        let none = sends-none L items s d (w.log s) lt (h.others s lt) in
        let parts = both-nil (by s (w.log d)) (by s (w.queue d)) (sym (by-append s (w.log d) (w.queue d)) ∙ h.delivered.each s d ∙ none) in
        by-append s (w.log d) (left_of L w d) ∙ rw (parts.0, by-ordered_high (suc L.contexts) s (w.queue d) (omega arith)) (sym none)

    each : (s d : ℕ) → by s (v.log d ++ v.queue d) ≡ sends L items s d (v.log s)
    each s d = rw (logs d, lefts d, logs s) (reached s d (cases_lt L.contexts s))

-- entries that carry a cargo, among those that carry a cargo or an item
pub by-lifted : {C I : Type 0} (s : ℕ) (es : List (Entry C)) → ◌≡◌ {A = List (Entry (C ⊎ I))} (by s (map lifted es)) (map lifted (by s es))
by-lifted s [] = refl
by-lifted {C} {I} s (e ∷ es) = go (by-lifted s es) (e.sender == s)
  where
    go : ◌≡◌ {A = List (Entry (C ⊎ I))} (by s (map lifted es)) (map lifted (by s es)) → (b : Bool)
        → ◌≡◌ {A = List (Entry (C ⊎ I))} (cond b (lifted e ∷ by s (map lifted es)) (by s (map lifted es))) (map lifted (cond b (e ∷ by s es) (by s es)))
    go ih true = ap (λ xs. lifted e ∷ xs) ih
    go ih false = ih

pub lifted-append : {C I : Type 0} (xs ys : List (Entry C)) → ◌≡◌ {A = List (Entry (C ⊎ I))} (map lifted (xs ++ ys)) (map lifted xs ++ map lifted ys)
lifted-append [] ys = refl
lifted-append (x ∷ xs) ys = ap (λ es. lifted x ∷ es) (lifted-append xs ys)

pub ordered-lifted : {C I : Type 0} (n : ℕ) (es : List (Entry C)) → ◌≡◌ {A = List (Entry (C ⊎ I))} (ordered n (map lifted es)) (map lifted (ordered n es))
ordered-lifted zero es = refl
ordered-lifted {C} {I} (suc n) es = ap (λ (xs : List (Entry (C ⊎ I))). xs ++ by n (map lifted es)) (ordered-lifted n es) ∙ ap (λ (xs : List (Entry (C ⊎ I))). map lifted (ordered n es) ++ xs) (by-lifted n es) ∙ sym (lifted-append (ordered n es) (by n es))

-- the cargo, or another where there is an item
abbrev cargo_or : {C I : Type 0} → C → (C ⊎ I) → C
cargo_or other (inl c) = c
cargo_or other (inr i) = other

abbrev carried : {C I : Type 0} → C → Entry (C ⊎ I) → Entry C
carried other e = record { sender = e.sender; stamp = e.stamp; cargo = cargo_or other e.cargo }

pub lifted-same : {C I : Type 0} (e f : Entry C) → ◌≡◌ {A = Entry (C ⊎ I)} (lifted e) (lifted f) → e ≡ f
lifted-same e f h = ap (carried e.cargo) h

pub lifted-all : {C I : Type 0} (xs ys : List (Entry C)) → ◌≡◌ {A = List (Entry (C ⊎ I))} (map lifted xs) (map lifted ys) → xs ≡ ys
lifted-all [] [] h = refl
lifted-all [] (y ∷ ys) h = absurd (cc)
lifted-all (x ∷ xs) [] h = absurd (cc)
lifted-all {C} {I} (x ∷ xs) (y ∷ ys) h =
    let head : ◌≡◌ {A = Entry (C ⊎ I)} (lifted x) (lifted y) = cc in
    let tail : ◌≡◌ {A = List (Entry (C ⊎ I))} (map lifted xs) (map lifted ys) = cc in
    ap (λ e. e ∷ xs) (lifted-same x y head) ∙ ap (λ es. y ∷ es) (lifted-all xs ys tail)
