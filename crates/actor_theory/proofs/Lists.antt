-- The entries of a sender, and the oldest one.
use Rattle.std.proofs.Common.{◌≡◌, ◌∷◌, ◌++◌, ◌==◌}
use Rattle.actor_theory.proofs.Common.{ℕ, List, [], Bool, true, false, cond, Option, Some, None, refl, sym, ◌∙◌, ap, map, filter, eqb-true, eqb-false, eq-eqb, ne_eqb, filter-append, Entry, Sent, stamped, is_for, mail, by, first_from, with_front}
use Rattle.actor_theory.specs.Language.{is_of}

pub by-append : {C : Type 0} (s : ℕ) (xs ys : List (Entry C)) → by s (xs ++ ys) ≡ by s xs ++ by s ys
by-append s xs ys = filter-append (is_of s) xs ys

pub by-cons : {C : Type 0} (s : ℕ) (e : Entry C) (es : List (Entry C)) → by s (e ∷ es) ≡ by s (e ∷ []) ++ by s es
by-cons s e es = by-append s (e ∷ []) es

pub by-one_same : {C : Type 0} (s : ℕ) (e : Entry C) → e.sender ≡ s → by s (e ∷ []) ≡ e ∷ []
by-one_same s e h = rw (eq-eqb e.sender s h) refl

pub by-one_other : {C : Type 0} (s : ℕ) (e : Entry C) → (e.sender ≡ s → ⊥) → by s (e ∷ []) ≡ []
by-one_other s e h = rw (ne_eqb e.sender s h) refl

pub by-mail_same : {C : Type 0} (s n k : ℕ) (xs : List (Sent C)) → by s (mail s n k xs) ≡ mail s n k xs
by-mail_same s n k [] = refl
by-mail_same s n k (x ∷ xs) = go (by-mail_same s n k xs) (is_for k x)
  where
    go : by s (mail s n k xs) ≡ mail s n k xs → (b : Bool) → by s (map (stamped s n) (cond b (x ∷ filter (is_for k) xs) (filter (is_for k) xs))) ≡ map (stamped s n) (cond b (x ∷ filter (is_for k) xs) (filter (is_for k) xs))
    go ih true = by-cons s (stamped s n x) (mail s n k xs) ∙ rw (by-one_same s (stamped s n x) refl, ih) refl
    go ih false = ih

pub by-mail_other : {C : Type 0} (t s n k : ℕ) (xs : List (Sent C)) → (s ≡ t → ⊥) → by t (mail s n k xs) ≡ []
by-mail_other t s n k [] h = refl
by-mail_other t s n k (x ∷ xs) h = go (by-mail_other t s n k xs h) (is_for k x)
  where
    go : by t (mail s n k xs) ≡ [] → (b : Bool) → by t (map (stamped s n) (cond b (x ∷ filter (is_for k) xs) (filter (is_for k) xs))) ≡ []
    go ih true = by-cons t (stamped s n x) (mail s n k xs) ∙ rw (by-one_other t (stamped s n x) h, ih) refl
    go ih false = ih

-- two entries of different senders may change places
by-swap : {C : Type 0} (t : ℕ) (x e : Entry C) (es : List (Entry C)) → (x.sender ≡ e.sender → ⊥) → by t (x ∷ e ∷ es) ≡ by t (e ∷ x ∷ es)
by-swap t x e es h = go (x.sender == t) (e.sender == t) refl refl
  where
    go : (b c : Bool) → (x.sender == t) ≡ b → (e.sender == t) ≡ c → cond b (x ∷ cond c (e ∷ by t es) (by t es)) (cond c (e ∷ by t es) (by t es))
        ≡ cond c (e ∷ cond b (x ∷ by t es) (by t es)) (cond b (x ∷ by t es) (by t es))
    go true true p q = absurd (h (eqb-true x.sender t p ∙ sym (eqb-true e.sender t q)))
    go true false p q = refl
    go false true p q = refl
    go false false p q = refl

-- what the oldest entry of a sender is
pub record IsFirstFrom {C : Type 0} (s : ℕ) (queue : List (Entry C)) (e : Entry C) (rest : List (Entry C)) : Type 0 where
  pub sender : e.sender ≡ s
  pub each : (t : ℕ) → by t queue ≡ by t (e ∷ rest)

pub first_from-some : {C : Type 0} (s : ℕ) (queue : List (Entry C)) (e : Entry C) (rest : List (Entry C)) → first_from s queue ≡ Some (e, rest) → IsFirstFrom s queue e rest
first_from-some s [] e rest h = absurd (cc)
first_from-some {C} s (x ∷ xs) e rest h = go (λ r i. first_from-some s xs e r i) (x.sender == s) refl (first_from s xs) refl h
  where
    go : ((r : List (Entry C)) → first_from s xs ≡ Some (e, r) → IsFirstFrom s xs e r) → (b : Bool) → (x.sender == s) ≡ b → (o : Option (Entry C × List (Entry C))) → first_from s xs ≡ o
        → cond b (Some (x, xs)) (with_front x o) ≡ Some (e, rest) → IsFirstFrom s (x ∷ xs) e rest
    go ih true eq o is found =
        let left : Entry C × List (Entry C) = (x, xs) in
        let right : Entry C × List (Entry C) = (e, rest) in
        let both : left ≡ right = cc in
        let same : x ≡ e = ap (λ (z : Entry C × List (Entry C)). z.0) both in
        let others : xs ≡ rest = ap (λ (z : Entry C × List (Entry C)). z.1) both in
        record { sender = sym (ap (λ (y : Entry C). y.sender) same) ∙ eqb-true x.sender s eq; each = λ t. ap (λ (y : Entry C). by t (y ∷ xs)) same ∙ ap (λ ys. by t (e ∷ ys)) others }
    go ih false eq None is found = absurd (cc)
    go ih false eq (Some r) is found =
        let left : Entry C × List (Entry C) = (r.0, x ∷ r.1) in
        let right : Entry C × List (Entry C) = (e, rest) in
        let both : left ≡ right = cc in
        let same : r.0 ≡ e = ap (λ (z : Entry C × List (Entry C)). z.0) both in
        let others : x ∷ r.1 ≡ rest = ap (λ (z : Entry C × List (Entry C)). z.1) both in
        let here = ih r.1 (is ∙ ap (λ (y : Entry C). Some (y, r.1)) same) in
        let other : x.sender ≡ e.sender → ⊥ = λ i. eqb-false x.sender s eq (i ∙ here.sender) in
        record { sender = here.sender; each = λ t. by-cons t x xs ∙ ap (λ ys. by t (x ∷ []) ++ ys) (here.each t) ∙ sym (by-cons t x (e ∷ r.1)) ∙ by-swap t x e r.1 other ∙ ap (λ ys. by t (e ∷ ys)) others }
