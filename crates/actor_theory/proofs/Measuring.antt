-- The measure of contexts and a reader.
use Rattle.std.proofs.Common.{◌≡◌, ◌+◌, ◌≤◌, ◌<◌, ◌∷◌, ◌++◌, ◌⊎◌}
use Rattle.actor_theory.proofs.Common.{ℕ, List, [], Bool, true, false, nat_le, cond, Option, Some, None, refl, sym, ◌∙◌, ap, subst, arith, inl, inr, map, filter, slice_get, cases_eq, ne_eqb, Entry, ReaderStep, Item, Sent, Moment, naive, number_after, number_along, own, total, entry_cost, IsMeasure, Slots, Reader, lifted, lifted_sent, slots_only, slot_after, reader_after, step_entry, Cell, ReaderCell, cell_log, world_of, IsJoinedLog}
use Rattle.actor_theory.specs.declared.entry.ReaderStep.TheVariants.{Entry as Taken}
use Rattle.actor_theory.specs.Potential.{Pays}
use Rattle.actor_theory.specs.Joined.{joined}
use Rattle.actor_theory.specs.Kept.{entry_of}
use Rattle.actor_theory.specs.Measure.{IsSlotMeasure, IsReaderMeasure, joined_weight, joined_cost}
use Rattle.actor_theory.proofs.Joining.{slot_moment, reader_moment, naive-slot, naive-reader}
use Rattle.actor_theory.proofs.Cells.{reader-log}

total-filter : {X : Type 0} (c : X → ℕ) (p : X → Bool) (xs : List X) → total c (filter p xs) ≤ total c xs
total-filter c p [] = omega arith
total-filter {X} c p (x ∷ xs) = go (total-filter c p xs) (p x)
  where
    go : total c (filter p xs) ≤ total c xs → (b : Bool) → total c (cond b (x ∷ filter p xs) (filter p xs)) ≤ c x + total c xs
    go ih true = omega arith
    go ih false = omega arith

total-lifted : {C I : Type 0} (cost : ℕ → Entry C → ℕ) (item_cost : I → ℕ) (d n : ℕ) (xs : List (Sent C)) → total (entry_cost (joined_cost cost item_cost) d n) (map lifted_sent xs) ≡ total (entry_cost cost d n) xs
total-lifted cost item_cost d n [] = refl
total-lifted cost item_cost d n (x ∷ xs) = ap (λ m. entry_cost cost d n x + m) (total-lifted cost item_cost d n xs)

-- the last of a list that was mapped
pub record IsLast {X Y : Type 0} (f : X → Y) (ys : List Y) (y : Y) : Type 0 where
  pub front : List X
  pub last : X
  pub front_is : ys ≡ map f front
  pub last_is : y ≡ f last

last-of : {X Y : Type 0} (f : X → Y) (ys : List Y) (y : Y) (xs : List X) → ys ++ y ∷ [] ≡ map f xs → IsLast f ys y
last-of f [] y [] h = absurd (cc)
last-of f [] y (x ∷ xs) h = let head : y ≡ f x = cc in record { front = []; last = x; front_is = refl; last_is = head }
last-of f (z ∷ ys) y [] h = absurd (cc)
last-of {X} {Y} f (z ∷ ys) y (x ∷ xs) h =
    let head : z ≡ f x = cc in
    let tail : ys ++ y ∷ [] ≡ map f xs = cc in
    let more = last-of f ys y xs tail in
    record { front = x ∷ more.front; last = more.last; front_is = ap (λ r. r ∷ ys) head ∙ ap (λ r. f x ∷ r) more.front_is; last_is = more.last_is }

-- what a slot pays, and what the reader pays
pays-slot : {S R C I : Type 0} (contexts : ℕ) (A : Slots S C) (B : Reader R C I) (slot_weight : S → ℕ) (reader_weight : R → ℕ) (cost : ℕ → Entry C → ℕ) (item_cost : I → ℕ) → IsSlotMeasure contexts A slot_weight cost
    → (d : ℕ) (log : List (Entry C)) (e : Entry C) → d < contexts → A.is_spent (slot_after A (A.start d) 0 log) ≡ false
    → Pays (joined contexts A B) (joined_weight slot_weight reader_weight) (joined_cost cost item_cost) d (slot_moment (slot_after A (A.start d) 0 log) (number_along 0 log)) (lifted e)
pays-slot {S} {R} {C} {I} contexts A B slot_weight reader_weight cost item_cost measure d log e lt alive =
    let s : S = slot_after A (A.start d) 0 log in
    let n : ℕ = number_after (number_along 0 log) e in
    let pays = measure.pays d log e lt alive in
    let same = total-lifted cost item_cost d n (filter (λ x. nat_le x.target contexts) (A.sent s n e)) in
    let less = total-filter (entry_cost cost d n) (λ x. nat_le x.target contexts) (A.sent s n e) in
    omega arith

pays-reader : {S R C I : Type 0} (contexts : ℕ) (A : Slots S C) (B : Reader R C I) (slot_weight : S → ℕ) (reader_weight : R → ℕ) (cost : ℕ → Entry C → ℕ) (item_cost : I → ℕ) → IsReaderMeasure contexts B reader_weight cost item_cost
    → (steps : List (ReaderStep I C)) (number : ℕ) (s : ReaderStep I C) → Pays (joined contexts A B) (joined_weight slot_weight reader_weight) (joined_cost cost item_cost) contexts (reader_moment (reader_after B B.start steps) number) (step_entry contexts s)
pays-reader {S} {R} {C} {I} contexts A B slot_weight reader_weight cost item_cost measure steps number (Item i m) =
    let r : R = reader_after B B.start steps in
    let n : ℕ = number_after number (own {C = C ⊎ I} contexts (inr i)) in
    let pays = measure.item steps i n in
    let same = total-lifted cost item_cost contexts n (slots_only contexts (B.item_sent r i)) in
    omega arith
pays-reader contexts A B slot_weight reader_weight cost item_cost measure steps number (Taken e m) = let pays = measure.entry steps e in omega arith

-- together they are a measure of the joined language
pub joined-measure : {S R C I : Type 0} (contexts : ℕ) (A : Slots S C) (B : Reader R C I) (slot_weight : S → ℕ) (reader_weight : R → ℕ) (cost : ℕ → Entry C → ℕ) (item_cost : I → ℕ) → IsSlotMeasure contexts A slot_weight cost
    → IsReaderMeasure contexts B reader_weight cost item_cost → IsMeasure (joined contexts A B) (IsJoinedLog contexts) (joined_weight slot_weight reader_weight) (joined_cost cost item_cost)
joined-measure {S} {R} {C} {I} contexts A B slot_weight reader_weight cost item_cost slots reader = record { pays = λ d log e le is alive. go d log e le is alive (cases_eq d contexts) }
  where
    weight : (S ⊎ R) → ℕ
    weight = joined_weight slot_weight reader_weight

    at-slot : (d : ℕ) (log : List (Entry (C ⊎ I))) (e : Entry (C ⊎ I)) → d < contexts → (d ≡ contexts → ⊥) → (joined contexts A B).is_spent (naive (joined contexts A B) d log).state ≡ false → IsLast lifted log e
        → Pays (joined contexts A B) weight (joined_cost cost item_cost) d (naive (joined contexts A B) d log) e
    at-slot d log e lt other alive last =
        let moment = ap (naive (joined contexts A B) d) last.front_is ∙ naive-slot contexts A B d last.front other in
        let now = ap (λ (m : Moment (S ⊎ R)). (joined contexts A B).is_spent m.state) (sym moment) ∙ alive in
        let P : Moment (S ⊎ R) → Type 0 = λ m. Pays (joined contexts A B) weight (joined_cost cost item_cost) d m (lifted last.last) in
        let Q : Entry (C ⊎ I) → Type 0 = λ x. Pays (joined contexts A B) weight (joined_cost cost item_cost) d (naive (joined contexts A B) d log) x in
        subst Q (sym last.last_is) (subst P (sym moment) (pays-slot contexts A B slot_weight reader_weight cost item_cost slots d last.front last.last lt now))

    at-reader : (log : List (Entry (C ⊎ I))) (e : Entry (C ⊎ I)) → IsLast (step_entry contexts) log e → Pays (joined contexts A B) weight (joined_cost cost item_cost) contexts (naive (joined contexts A B) contexts log) e
    at-reader log e last =
        let moment = ap (naive (joined contexts A B) contexts) last.front_is ∙ naive-reader contexts A B last.front in
        let P : Moment (S ⊎ R) → Type 0 = λ m. Pays (joined contexts A B) weight (joined_cost cost item_cost) contexts m (step_entry contexts last.last) in
        let Q : Entry (C ⊎ I) → Type 0 = λ x. Pays (joined contexts A B) weight (joined_cost cost item_cost) contexts (naive (joined contexts A B) contexts log) x in
        subst Q (sym last.last_is) (subst P (sym moment) (pays-reader contexts A B slot_weight reader_weight cost item_cost reader last.front (number_along 0 (map (step_entry contexts) last.front)) last.last))

    go : (d : ℕ) (log : List (Entry (C ⊎ I))) (e : Entry (C ⊎ I)) → d ≤ contexts → IsJoinedLog contexts d (log ++ e ∷ []) → (joined contexts A B).is_spent (naive (joined contexts A B) d log).state ≡ false → ((d ≡ contexts) ⊎ (d ≡ contexts → ⊥))
        → Pays (joined contexts A B) weight (joined_cost cost item_cost) d (naive (joined contexts A B) d log) e
    go d log e le is alive (inr other) = let whole = is.slot other in at-slot d log e (omega arith) other alive (last-of lifted log e whole.0 whole.1)
    go d log e le is alive (inl at) =
        let whole = is.reader at in
        let P : ℕ → Type 0 = λ k. Pays (joined contexts A B) weight (joined_cost cost item_cost) k (naive (joined contexts A B) k log) e in
        subst P (sym at) (at-reader log e (last-of (step_entry contexts) log e whole.0 whole.1))

-- the machine's logs are such logs
pub machine-log : {S R C I : Type 0} (contexts : ℕ) (cells : List (Cell S C)) (reader : ReaderCell R C I) (queued : List (List (Entry C))) (d : ℕ) → IsJoinedLog contexts d ((world_of contexts cells reader queued).log d)
machine-log {S} {R} {C} {I} contexts cells reader queued d = record {
  slot = λ other. at-slot other (slice_get cells d) refl;
  reader = λ at. (reader.steps, ap (λ k. (world_of contexts cells reader queued).log k) at ∙ reader-log contexts cells reader queued);
}
  where
    log-is : (d ≡ contexts → ⊥) → (world_of contexts cells reader queued).log d ≡ cell_log (slice_get cells d)
    log-is other = rw (ne_eqb d contexts other) refl

    at-slot : (d ≡ contexts → ⊥) → (o : Option (Cell S C)) → slice_get cells d ≡ o → (entries : List (Entry C)) × ((world_of contexts cells reader queued).log d ≡ map lifted entries)
    at-slot other None e = ([], log-is other ∙ ap cell_log e)
    at-slot other (Some c) e = (map entry_of c.log, log-is other ∙ ap cell_log e)
