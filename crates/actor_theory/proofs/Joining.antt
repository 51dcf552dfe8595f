-- The joined language is that of the contexts at a slot, and that of the reader at the reader.
use Rattle.std.proofs.Common.{◌≡◌, ◌≤◌, ◌<◌, ◌∷◌, ◌++◌, ◌==◌, ◌⊎◌}
use Rattle.actor_theory.proofs.Common.{ℕ, List, [], Bool, true, false, nat_le, nat_lt, cond, refl, ◌∙◌, ap, subst, arith, inl, inr, map, filter, eqb-true, eq-eqb, ne_eqb, le-leb, lt-ltb, leb-true, ltb-true, Entry, ReaderStep, Item, Sent, Moment, first, after_all, naive, number_after, number_along, stamped, is_for, mail, replies, own, IsUnspentAlong, IsReaderQuiet, Slots, Reader, lifted, lifted_sent, to_actors, to_slots, slot_after, reader_after, step_entry}
use Rattle.actor_theory.specs.declared.entry.ReaderStep.TheVariants.{Entry as Taken}
use Rattle.actor_theory.specs.Joined.{joined, reader_next, reader_sent, IsUnspentSlot}

mail-lifted : {C I : Type 0} (s n k : ℕ) (xs : List (Sent C)) → ◌≡◌ {A = List (Entry (C ⊎ I))} (mail s n k (map lifted_sent xs)) (map lifted (mail s n k xs))
mail-lifted s n k [] = refl
mail-lifted {C} {I} s n k (x ∷ xs) = go (mail-lifted s n k xs) (x.target == k)
  where
    go : ◌≡◌ {A = List (Entry (C ⊎ I))} (mail s n k (map lifted_sent xs)) (map lifted (mail s n k xs)) → (b : Bool)
        → ◌≡◌ {A = List (Entry (C ⊎ I))} (map (stamped s n) (cond b (lifted_sent x ∷ filter (is_for k) (map lifted_sent xs)) (filter (is_for k) (map lifted_sent xs)))) (map lifted (map (stamped s n) (cond b (x ∷ filter (is_for k) xs) (filter (is_for k) xs))))
    go ih true = ap (λ es. lifted (stamped s n x) ∷ es) ih
    go ih false = ih

mail-filter : {C : Type 0} (p : Sent C → Bool) (s n k : ℕ) (xs : List (Sent C)) → ((x : Sent C) → x.target ≡ k → p x ≡ true) → mail s n k (filter p xs) ≡ mail s n k xs
mail-filter p s n k [] h = refl
mail-filter {C} p s n k (x ∷ xs) h = go (mail-filter p s n k xs h) (p x) refl (x.target == k) refl
  where
    go : mail s n k (filter p xs) ≡ mail s n k xs → (b : Bool) → p x ≡ b → (c : Bool) → (x.target == k) ≡ c
        → mail s n k (cond b (x ∷ filter p xs) (filter p xs)) ≡ map (stamped s n) (cond c (x ∷ filter (is_for k) xs) (filter (is_for k) xs))
    go ih true e true i = rw i (ap (λ es. stamped s n x ∷ es) ih)
    go ih true e false i = rw i ih
    go ih false e true i = let yes = h x (eqb-true x.target k i) in absurd (cc)
    go ih false e false i = ih

pub mail-filter_none : {C : Type 0} (p : Sent C → Bool) (s n k : ℕ) (xs : List (Sent C)) → ((x : Sent C) → x.target ≡ k → p x ≡ false) → mail s n k (filter p xs) ≡ []
mail-filter_none p s n k [] h = refl
mail-filter_none {C} p s n k (x ∷ xs) h = go (mail-filter_none p s n k xs h) (p x) refl (x.target == k) refl
  where
    go : mail s n k (filter p xs) ≡ [] → (b : Bool) → p x ≡ b → (c : Bool) → (x.target == k) ≡ c → mail s n k (cond b (x ∷ filter p xs) (filter p xs)) ≡ []
    go ih true e true i = let no = h x (eqb-true x.target k i) in absurd (cc)
    go ih true e false i = rw i ih
    go ih false e c i = ih

-- what is sent to an actor, and to nobody else
pub mail-to_actors : {C I : Type 0} (contexts s n k : ℕ) (xs : List (Sent C)) → k ≤ contexts → ◌≡◌ {A = List (Entry (C ⊎ I))} (mail s n k (to_actors contexts xs)) (map lifted (mail s n k xs))
mail-to_actors contexts s n k xs le =
    mail-lifted s n k (filter (λ x. nat_le x.target contexts) xs) ∙ ap (map lifted) (mail-filter (λ x. nat_le x.target contexts) s n k xs (λ x at. le-leb x.target contexts (omega arith)))

pub mail-to_actors_none : {C I : Type 0} (contexts s n k : ℕ) (xs : List (Sent C)) → contexts < k → ◌≡◌ {A = List (Entry (C ⊎ I))} (mail s n k (to_actors contexts xs)) []
mail-to_actors_none contexts s n k xs lt = mail-lifted s n k (filter (λ x. nat_le x.target contexts) xs) ∙ ap (map lifted) (mail-filter_none (λ x. nat_le x.target contexts) s n k xs (λ x at. no x.target at (nat_le x.target contexts) refl))
  where
    no : (t : ℕ) → t ≡ k → (b : Bool) → nat_le t contexts ≡ b → b ≡ false
    no t at true e = let le = leb-true t contexts e in absurd (omega arith)
    no t at false e = refl

pub mail-to_slots : {C I : Type 0} (contexts s n k : ℕ) (xs : List (Sent C)) → k < contexts → ◌≡◌ {A = List (Entry (C ⊎ I))} (mail s n k (to_slots contexts xs)) (map lifted (mail s n k xs))
mail-to_slots contexts s n k xs lt =
    mail-lifted s n k (filter (λ x. nat_lt x.target contexts) xs) ∙ ap (map lifted) (mail-filter (λ x. nat_lt x.target contexts) s n k xs (λ x at. lt-ltb x.target contexts (omega arith)))

pub mail-to_slots_none : {C I : Type 0} (contexts s n k : ℕ) (xs : List (Sent C)) → contexts ≤ k → ◌≡◌ {A = List (Entry (C ⊎ I))} (mail s n k (to_slots contexts xs)) []
mail-to_slots_none contexts s n k xs le = mail-lifted s n k (filter (λ x. nat_lt x.target contexts) xs) ∙ ap (map lifted) (mail-filter_none (λ x. nat_lt x.target contexts) s n k xs (λ x at. no x.target at (nat_lt x.target contexts) refl))
  where
    no : (t : ℕ) → t ≡ k → (b : Bool) → nat_lt t contexts ≡ b → b ≡ false
    no t at true e = let lt = ltb-true t contexts e in absurd (omega arith)
    no t at false e = refl

abbrev pub slot_moment : {S R : Type 0} → S → ℕ → Moment (S ⊎ R)
slot_moment s number = record { state = inl s; number = number }

abbrev pub reader_moment : {S R : Type 0} → R → ℕ → Moment (S ⊎ R)
reader_moment r number = record { state = inr r; number = number }

slot-all : {S R C I : Type 0} (contexts : ℕ) (A : Slots S C) (B : Reader R C I) (s : S) (number : ℕ) (log : List (Entry C))
    → after_all (joined contexts A B) (slot_moment s number) (map lifted log) ≡ slot_moment (slot_after A s number log) (number_along number log)
slot-all contexts A B s number [] = refl
slot-all contexts A B s number (e ∷ es) = slot-all contexts A B (A.handle s (number_after number e) e) (number_after number e) es

pub first-slot : {S R C I : Type 0} (contexts : ℕ) (A : Slots S C) (B : Reader R C I) (d : ℕ) → (d ≡ contexts → ⊥) → first (joined contexts A B) d ≡ slot_moment (A.start d) 0
first-slot contexts A B d other = rw (ne_eqb d contexts other) refl

pub first-reader : {S R C I : Type 0} (contexts : ℕ) (A : Slots S C) (B : Reader R C I) → first (joined contexts A B) contexts ≡ reader_moment B.start 0
first-reader contexts A B = rw (eq-eqb contexts contexts refl) refl

-- naive evaluation of a slot is that of its context alone
pub naive-slot : {S R C I : Type 0} (contexts : ℕ) (A : Slots S C) (B : Reader R C I) (d : ℕ) (log : List (Entry C)) → (d ≡ contexts → ⊥)
    → naive (joined contexts A B) d (map lifted log) ≡ slot_moment (slot_after A (A.start d) 0 log) (number_along 0 log)
naive-slot contexts A B d log other = ap (λ m. after_all (joined contexts A B) m (map lifted log)) (first-slot contexts A B d other) ∙ slot-all contexts A B (A.start d) 0 log

reader-all : {S R C I : Type 0} (contexts : ℕ) (A : Slots S C) (B : Reader R C I) (r : R) (number : ℕ) (steps : List (ReaderStep I C))
    → after_all (joined contexts A B) (reader_moment r number) (map (step_entry contexts) steps) ≡ reader_moment (reader_after B r steps) (number_along number (map (step_entry contexts) steps))
reader-all contexts A B r number [] = refl
reader-all {S} {R} {C} {I} contexts A B r number (Item i n ∷ steps) = reader-all contexts A B (B.item r i) (number_after number (own {C = C ⊎ I} contexts (inr i))) steps
reader-all contexts A B r number (Taken e n ∷ steps) = reader-all contexts A B (B.entry r e) (number_after number e) steps

-- naive evaluation of the reader is that of the reader alone
pub naive-reader : {S R C I : Type 0} (contexts : ℕ) (A : Slots S C) (B : Reader R C I) (steps : List (ReaderStep I C))
    → naive (joined contexts A B) contexts (map (step_entry contexts) steps) ≡ reader_moment (reader_after B B.start steps) (number_along 0 (map (step_entry contexts) steps))
naive-reader contexts A B steps = ap (λ m. after_all (joined contexts A B) m (map (step_entry contexts) steps)) (first-reader contexts A B) ∙ reader-all contexts A B B.start 0 steps

unspent-along : {S R C I : Type 0} (contexts : ℕ) (A : Slots S C) (B : Reader R C I) (s : S) (number : ℕ) (log : List (Entry C)) → IsUnspentSlot A s number log
    → IsUnspentAlong (joined contexts A B) (slot_moment s number) (map lifted log)
unspent-along contexts A B s number [] h = tt
unspent-along contexts A B s number (e ∷ es) h = (h.0, unspent-along contexts A B (A.handle s (number_after number e) e) (number_after number e) es h.1)

along-unspent : {S R C I : Type 0} (contexts : ℕ) (A : Slots S C) (B : Reader R C I) (s : S) (number : ℕ) (log : List (Entry C)) → IsUnspentAlong (joined contexts A B) (slot_moment s number) (map lifted log)
    → IsUnspentSlot A s number log
along-unspent contexts A B s number [] h = tt
along-unspent contexts A B s number (e ∷ es) h = (h.0, along-unspent contexts A B (A.handle s (number_after number e) e) (number_after number e) es h.1)

-- a slot's entries are all handled before it is spent, in the joined language as in its own
pub unspent-joined : {S R C I : Type 0} (contexts : ℕ) (A : Slots S C) (B : Reader R C I) (d : ℕ) (log : List (Entry C)) → (d ≡ contexts → ⊥) → IsUnspentSlot A (A.start d) 0 log
    → IsUnspentAlong (joined contexts A B) (first (joined contexts A B) d) (map lifted log)
unspent-joined contexts A B d log other h = rw (first-slot contexts A B d other) (unspent-along contexts A B (A.start d) 0 log h)

pub unspent-slot : {S R C I : Type 0} (contexts : ℕ) (A : Slots S C) (B : Reader R C I) (d : ℕ) (log : List (Entry C)) → (d ≡ contexts → ⊥)
    → IsUnspentAlong (joined contexts A B) (first (joined contexts A B) d) (map lifted log) → IsUnspentSlot A (A.start d) 0 log
unspent-slot {S} {R} {C} {I} contexts A B d log other h =
    let P : Moment (S ⊎ R) → Type 0 = λ m. IsUnspentAlong (joined contexts A B) m (map lifted log) in
    along-unspent contexts A B (A.start d) 0 log (subst P (first-slot contexts A B d other) h)

-- the reader is never spent
pub unspent-reader : {S R C I : Type 0} (contexts : ℕ) (A : Slots S C) (B : Reader R C I) (log : List (Entry (C ⊎ I))) → IsUnspentAlong (joined contexts A B) (first (joined contexts A B) contexts) log
unspent-reader {S} {R} {C} {I} contexts A B log = rw (first-reader contexts A B) (go B.start 0 log)
  where
    go : (r : R) (number : ℕ) (log : List (Entry (C ⊎ I))) → IsUnspentAlong (joined contexts A B) (reader_moment r number) log
    go r number [] = tt
    go r number (e ∷ es) = (refl, go (reader_next B r e e.cargo) (number_after number e) es)

-- the reader sends itself nothing but its items
pub joined-quiet : {S R C I : Type 0} (contexts : ℕ) (A : Slots S C) (B : Reader R C I) → IsReaderQuiet (joined contexts A B)
joined-quiet {S} {R} {C} {I} contexts A B = record { loads = mail-to_slots_none contexts contexts 0 contexts B.loads (omega arith); replies_none = λ log. rw (first-reader contexts A B) (none B.start 0 log) }
  where
    one : (r : R) (n : ℕ) (cargo : C ⊎ I) → mail contexts n contexts (reader_sent contexts B r cargo) ≡ []
    one r n (inl c) = refl
    one r n (inr i) = mail-to_slots_none contexts contexts n contexts (B.item_sent r i) (omega arith)

    none : (r : R) (number : ℕ) (log : List (Entry (C ⊎ I))) → replies (joined contexts A B) contexts contexts (reader_moment r number) log ≡ []
    none r number [] = refl
    none r number (e ∷ es) = ap (λ rs. rs ++ replies (joined contexts A B) contexts contexts (reader_moment (reader_next B r e e.cargo) (number_after number e)) es) (one r (number_after number e) e.cargo) ∙ none (reader_next B r e e.cargo) (number_after number e) es
