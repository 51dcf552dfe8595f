-- The place of the oldest entry of a sender.
use Rattle.actor_theory.proofs.Common.{ℕ, suc, List, [], length, drop, Option, Some, None, refl, sym, ◌∙◌, ap, append_assoc, arith, eq-eqb, ne_eqb, Entry, first_from, with_front}
use Rattle.std.proofs.Common.{◌≡◌, ◌+◌, ◌<◌, ◌≤◌, ◌∷◌, ◌++◌, take, get_or}
use Rattle.std.specs.List.{remove}
use Rattle.std.proofs.lemmas.List.{drop_more, take_more, drop_all}
use Rattle.actor_theory.proofs.Queues.{behind}

pub behind-none : {C : Type 0} (o : Option (Entry C × List (Entry C))) → o ≡ behind [] o
behind-none None = refl
behind-none (Some p) = refl

behind-more : {C : Type 0} (front : List (Entry C)) (e : Entry C) (o : Option (Entry C × List (Entry C))) → behind front (with_front e o) ≡ behind (front ++ e ∷ []) o
behind-more front e None = refl
behind-more {C} front e (Some p) = ap (λ (q : List (Entry C)). Some (p.0, q)) (sym (append_assoc front (e ∷ []) p.1))

-- one entry of another sender is passed
pub place-more : {C : Type 0} (s i : ℕ) (q : List (Entry C)) (e : Entry C) → i < length q → ((d : Entry C) → e ≡ get_or q i d) → (e.sender ≡ s → ⊥) → first_from s q ≡ behind (take i q) (first_from s (drop i q))
    → first_from s q ≡ behind (take (i + 1) q) (first_from s (drop (i + 1) q))
place-more s i q e lt is other h =
    let dropped : drop i q ≡ e ∷ drop (i + 1) q = drop_more q i e lt ∙ ap (λ x. x ∷ drop (i + 1) q) (sym (is e)) in
    let taken : take (i + 1) q ≡ take i q ++ e ∷ [] = take_more q i e lt ∙ ap (λ x. take i q ++ x ∷ []) (sym (is e)) in
    h ∙ rw (dropped, ne_eqb e.sender s other, taken) (behind-more (take i q) e (first_from s (drop (i + 1) q)))

pub place-found : {C : Type 0} (s i : ℕ) (q : List (Entry C)) (e : Entry C) → i < length q → ((d : Entry C) → e ≡ get_or q i d) → e.sender ≡ s → first_from s q ≡ behind (take i q) (first_from s (drop i q))
    → (d : Entry C) → first_from s q ≡ Some (get_or q i d, remove q i)
place-found {C} s i q e lt is same h d =
    let dropped : drop i q ≡ e ∷ drop (suc i) q = drop_more q i e lt ∙ ap (λ x. x ∷ drop (i + 1) q) (sym (is e)) ∙ ap (λ n. e ∷ drop n q) (let one : i + 1 ≡ suc i = omega arith in one) in
    h ∙ rw (dropped, eq-eqb e.sender s same) (ap (λ (x : Entry C). Some (x, take i q ++ drop (suc i) q)) (is d))

pub place-all : {C : Type 0} (s i : ℕ) (q : List (Entry C)) → length q ≤ i → first_from s q ≡ behind (take i q) (first_from s (drop i q)) → first_from s q ≡ None
place-all s i q le h = h ∙ ap (λ r. behind (take i q) (first_from s r)) (drop_all i q le)
