-- Entries that carry a cargo, among those that carry a cargo or an item.
use Rattle.std.proofs.Common.{◌≡◌, ◌∷◌, ◌++◌, ◌==◌, ◌⊎◌}
use Rattle.naive_meaning.proofs.Common.{ℕ, List, [], Bool, true, false, cond, refl, ap, inl, inr, map, filter, Entry, ReaderStep, Cargo, Item, Sent, by, is_for, mail, stamped, lifted, lifted_sent, step_entry, entries_of}
use Rattle.actor_theory.specs.Joined.{carrying}
use Rattle.actor_theory.specs.Language.{to_self}
use Rattle.actor_theory.specs.declared.entry.ReaderStep.TheVariants as step

-- the entry stands before the others, if it carries a cargo
abbrev pub with_cargo : {C I : Type 0} → Entry (C ⊎ I) → C ⊎ I → List (Entry C) → List (Entry C)
with_cargo e (inl c) es = carrying e c ∷ es
with_cargo e (inr i) es = es

-- the entries that carry a cargo
abbrev pub cargoes : {C I : Type 0} → List (Entry (C ⊎ I)) → List (Entry C)
cargoes [] = []
cargoes (e ∷ es) = with_cargo e e.cargo (cargoes es)

-- of two lists
pub cargoes-append : {C I : Type 0} (xs ys : List (Entry (C ⊎ I))) → cargoes (xs ++ ys) ≡ cargoes xs ++ cargoes ys
cargoes-append [] ys = refl
cargoes-append {C} {I} (x ∷ xs) ys = go (cargoes-append xs ys) x.cargo
  where
    go : cargoes (xs ++ ys) ≡ cargoes xs ++ cargoes ys → (k : C ⊎ I) → with_cargo x k (cargoes (xs ++ ys)) ≡ with_cargo x k (cargoes xs) ++ cargoes ys
    go ih (inl c) = ap (λ es. carrying x c ∷ es) ih
    go ih (inr i) = ih

-- of cargoes alone they are all
pub cargoes-lifted : {C : Type 0} (I : Type 0) (es : List (Entry C)) → cargoes {C = C} {I = I} (map lifted es) ≡ es
cargoes-lifted I [] = refl
cargoes-lifted I (e ∷ es) = ap (λ xs. e ∷ xs) (cargoes-lifted I es)

-- those of a sender
pub cargoes-by : {C I : Type 0} (s : ℕ) (es : List (Entry (C ⊎ I))) → cargoes (by s es) ≡ by s (cargoes es)
cargoes-by s [] = refl
cargoes-by {C} {I} s (e ∷ es) = go (cargoes-by s es) (e.sender == s) refl e.cargo refl
  where
    go : cargoes (by s es) ≡ by s (cargoes es) → (b : Bool) → (e.sender == s) ≡ b → (k : C ⊎ I) → e.cargo ≡ k → cargoes (cond b (e ∷ by s es) (by s es)) ≡ by s (with_cargo e k (cargoes es))
    go ih true i (inl c) j = rw (i, j) (ap (λ xs. carrying e c ∷ xs) ih)
    go ih true i (inr x) j = rw j ih
    go ih false i (inl c) j = rw i ih
    go ih false i (inr x) j = ih

-- what the reader's steps handle
pub cargoes-steps : (k : ℕ) (steps : List (ReaderStep Item Cargo)) → cargoes (map (step_entry k) steps) ≡ entries_of steps
cargoes-steps k [] = refl
cargoes-steps k (step.Item i n ∷ steps) = cargoes-steps k steps
cargoes-steps k (step.Entry e n ∷ steps) = ap (λ xs. e ∷ xs) (cargoes-steps k steps)

-- what is sent of cargoes
pub cargoes-mail : {C : Type 0} (I : Type 0) (s n d : ℕ) (xs : List (Sent C)) → cargoes {C = C} {I = I} (mail s n d (map lifted_sent xs)) ≡ mail s n d xs
cargoes-mail I s n d [] = refl
cargoes-mail {C} I s n d (x ∷ xs) = go (cargoes-mail I s n d xs) (x.target == d)
  where
    go : cargoes {C = C} {I = I} (mail s n d (map lifted_sent xs)) ≡ mail s n d xs → (b : Bool)
        → cargoes {C = C} {I = I} (map (stamped s n) (cond b (lifted_sent x ∷ filter (is_for d) (map lifted_sent xs)) (filter (is_for d) (map lifted_sent xs)))) ≡ map (stamped s n) (cond b (x ∷ filter (is_for d) xs) (filter (is_for d) xs))
    go ih true = ap (λ es. stamped s n x ∷ es) ih
    go ih false = ih

-- items that the reader sends itself carry none
pub cargoes-items : (C : Type 0) {I : Type 0} (s k d : ℕ) (items : List I) → cargoes {C = C} {I = I} (mail s 0 d (map (to_self k) (map inr items))) ≡ []
cargoes-items C s k d [] = refl
cargoes-items C {I} s k d (i ∷ is) = go (cargoes-items C s k d is) (k == d)
  where
    go : cargoes {C = C} {I = I} (mail s 0 d (map (to_self k) (map inr is))) ≡ [] → (b : Bool)
        → cargoes {C = C} {I = I} (map (stamped s 0) (cond b (to_self k (inr i) ∷ filter (is_for d) (map (to_self k) (map inr is))) (filter (is_for d) (map (to_self k) (map inr is))))) ≡ []
    go ih true = ih
    go ih false = ih
