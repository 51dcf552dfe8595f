-- Cells stand at their logs.
use Rattle.std.proofs.Common.{◌≡◌, ◌+◌, ◌<◌, ◌∷◌, ◌++◌, ◌&&◌, ◌⊎◌}
use Rattle.actor_theory.proofs.Common.{ℕ, List, [], Bool, true, false, not, cond, Option, Some, None, refl, sym, ◌∙◌, ap, subst, max, arith, inr, map, slice_get, IfSome, eq-eqb, ne_eqb, le-leb, map-append, Entry, Handled, ReaderStep, Item, Language, Moment, naive, number_after, number_along, numbers_along, World, own, first_from, finds, Slots, Reader, lifted, slot_after, reader_after, step_entry, step_number, number_of, Cell, ReaderCell, cell_log, queue_at, own_items, world_of, IsCellOf, Stand, cell_after, reader_after_entry, reader_after_item}
use Rattle.actor_theory.specs.declared.entry.ReaderStep.TheVariants.{Entry as Taken}
use Rattle.actor_theory.specs.Joined.{joined}
use Rattle.actor_theory.specs.Kept.{entry_of}
use Rattle.actor_theory.specs.Machine.{IsReaderOf}
use Rattle.actor_theory.proofs.Joining.{slot_moment, reader_moment, naive-slot, naive-reader}
use Rattle.actor_theory.proofs.Keeping.{get-within}
use Rattle.actor_theory.proofs.Queues.{lifted_found, first_from-lifted}

number_along-one : {C : Type 0} (n : ℕ) (xs : List (Entry C)) (e : Entry C) → number_along n (xs ++ e ∷ []) ≡ number_after (number_along n xs) e
number_along-one n [] e = refl
number_along-one n (x ∷ xs) e = number_along-one (number_after n x) xs e

numbers_along-one : {C : Type 0} (n : ℕ) (xs : List (Entry C)) (e : Entry C) → numbers_along n (xs ++ e ∷ []) ≡ numbers_along n xs ++ number_after (number_along n xs) e ∷ []
numbers_along-one n [] e = refl
numbers_along-one n (x ∷ xs) e = ap (λ ns. number_after n x ∷ ns) (numbers_along-one (number_after n x) xs e)

slot_after-one : {S C : Type 0} (A : Slots S C) (s : S) (n : ℕ) (xs : List (Entry C)) (e : Entry C) → slot_after A s n (xs ++ e ∷ []) ≡ A.handle (slot_after A s n xs) (number_after (number_along n xs) e) e
slot_after-one A s n [] e = refl
slot_after-one A s n (x ∷ xs) e = slot_after-one A (A.handle s (number_after n x) x) (number_after n x) xs e

reader_after-append : {R C I : Type 0} (B : Reader R C I) (r : R) (xs ys : List (ReaderStep I C)) → reader_after B r (xs ++ ys) ≡ reader_after B (reader_after B r xs) ys
reader_after-append B r [] ys = refl
reader_after-append B r (Item i n ∷ xs) ys = reader_after-append B (B.item r i) xs ys
reader_after-append B r (Taken e n ∷ xs) ys = reader_after-append B (B.entry r e) xs ys

-- a cell that stands at its log still does after a handling
pub cell-after : {S C : Type 0} (A : Slots S C) (slot : ℕ) (c : Cell S C) (e : Entry C) → IsCellOf A slot c → IsCellOf A slot (cell_after A c e)
cell-after {S} {C} A slot c e h =
    let n : ℕ = number_after c.number e in
    let handled : Handled C = record { entry = e; number = n } in
    let xs : List (Entry C) = map entry_of c.log in
    let entries : map entry_of (c.log ++ handled ∷ []) ≡ xs ++ e ∷ [] = map-append entry_of c.log (handled ∷ []) in
    record {
      state = ap (λ s. A.handle s n e) h.state ∙ ap (λ m. A.handle (slot_after A (A.start slot) 0 xs) (number_after m e) e) h.number ∙ sym (slot_after-one A (A.start slot) 0 xs e) ∙ ap (slot_after A (A.start slot) 0) (sym entries);
      number = ap (λ m. number_after m e) h.number ∙ sym (number_along-one 0 xs e) ∙ ap (number_along 0) (sym entries);
      numbers = map-append number_of c.log (handled ∷ []) ∙ ap (λ ns. ns ++ n ∷ []) h.numbers ∙ ap (λ m. numbers_along 0 xs ++ number_after m e ∷ []) h.number ∙ sym (numbers_along-one 0 xs e) ∙ ap (numbers_along 0) (sym entries);
    }

-- so does a reader, with one more step
reader-after : {R C I : Type 0} (contexts : ℕ) (B : Reader R C I) (r : ReaderCell R C I) (s : ReaderStep I C) (rest : List I) → IsReaderOf contexts B r → step_number s ≡ number_after r.number (step_entry contexts s)
    → IsReaderOf contexts B (record { state = reader_after B r.state (s ∷ []); number = step_number s; steps = r.steps ++ s ∷ []; rest = rest })
reader-after {R} {C} {I} contexts B r s rest h number =
    let e : Entry (C ⊎ I) = step_entry contexts s in
    let xs : List (Entry (C ⊎ I)) = map (step_entry contexts) r.steps in
    let entries : map (step_entry contexts) (r.steps ++ s ∷ []) ≡ xs ++ e ∷ [] = map-append (step_entry contexts) r.steps (s ∷ []) in
    let now : step_number s ≡ number_after (number_along 0 xs) e = number ∙ ap (λ m. number_after m e) h.number in
    record {
      state = ap (λ x. reader_after B x (s ∷ [])) h.state ∙ sym (reader_after-append B B.start r.steps (s ∷ []));
      number = now ∙ sym (number_along-one 0 xs e) ∙ ap (number_along 0) (sym entries);
      numbers = map-append step_number r.steps (s ∷ []) ∙ ap (λ ns. ns ++ step_number s ∷ []) h.numbers ∙ ap (λ m. numbers_along 0 xs ++ m ∷ []) now ∙ sym (numbers_along-one 0 xs e) ∙ ap (numbers_along 0) (sym entries);
    }

pub reader-entry : {R C I : Type 0} (contexts : ℕ) (B : Reader R C I) (r : ReaderCell R C I) (e : Entry C) → IsReaderOf contexts B r → IsReaderOf contexts B (reader_after_entry B r e)
reader-entry contexts B r e h = reader-after contexts B r (Taken e (number_after r.number e)) r.rest h refl

pub reader-item : {R C I : Type 0} (contexts : ℕ) (B : Reader R C I) (r : ReaderCell R C I) (i : I) (rest : List I) → IsReaderOf contexts B r → IsReaderOf contexts B (reader_after_item B r i rest)
reader-item contexts B r i rest h = let number : 1 + r.number ≡ 1 + max r.number 0 = omega arith in reader-after contexts B r (Item i (1 + r.number)) rest h number

-- the cell at a place
pub is-slot : {S R C I : Type 0} (contexts : ℕ) (A : Slots S C) (B : Reader R C I) (cells : List (Cell S C)) (reader : ReaderCell R C I) (queued : List (List (Entry C))) (d : ℕ) (c : Cell S C)
    → Stand contexts A B cells reader queued → slice_get cells d ≡ Some c → d < contexts
is-slot contexts A B cells reader queued d c h e = let within = get-within cells d c e in let count = h.cells_count in omega arith

pub cell-is : {S R C I : Type 0} (contexts : ℕ) (A : Slots S C) (B : Reader R C I) (cells : List (Cell S C)) (reader : ReaderCell R C I) (queued : List (List (Entry C))) (d : ℕ) (c : Cell S C)
    → Stand contexts A B cells reader queued → slice_get cells d ≡ Some c → IsCellOf A d c
cell-is {S} {R} {C} {I} contexts A B cells reader queued d c h e = let P : Option (Cell S C) → Type 0 = λ o. IfSome o (IsCellOf A d) in subst P e (h.cells_are d)

-- its log in the world, and its moment
pub slot-log : {S R C I : Type 0} (contexts : ℕ) (cells : List (Cell S C)) (reader : ReaderCell R C I) (queued : List (List (Entry C))) (d : ℕ) (c : Cell S C) → (d ≡ contexts → ⊥) → slice_get cells d ≡ Some c
    → (world_of contexts cells reader queued).log d ≡ map lifted (map entry_of c.log)
slot-log contexts cells reader queued d c other e = rw (ne_eqb d contexts other) (ap cell_log e)

pub reader-log : {S R C I : Type 0} (contexts : ℕ) (cells : List (Cell S C)) (reader : ReaderCell R C I) (queued : List (List (Entry C))) → (world_of contexts cells reader queued).log contexts ≡ map (step_entry contexts) reader.steps
reader-log contexts cells reader queued = rw (eq-eqb contexts contexts refl) refl

pub slot-moment : {S R C I : Type 0} (contexts : ℕ) (A : Slots S C) (B : Reader R C I) (cells : List (Cell S C)) (reader : ReaderCell R C I) (queued : List (List (Entry C))) (d : ℕ) (c : Cell S C)
    → Stand contexts A B cells reader queued → slice_get cells d ≡ Some c → naive (joined contexts A B) d ((world_of contexts cells reader queued).log d) ≡ slot_moment c.state c.number
slot-moment {S} {R} {C} {I} contexts A B cells reader queued d c h e =
    let lt = is-slot contexts A B cells reader queued d c h e in
    let other : d ≡ contexts → ⊥ = λ i. omega arith in
    let is = cell-is contexts A B cells reader queued d c h e in
    let made : S → ℕ → Moment (S ⊎ R) = λ s n. slot_moment s n in
    ap (naive (joined contexts A B) d) (slot-log contexts cells reader queued d c other e) ∙ naive-slot contexts A B d (map entry_of c.log) other
    ∙ ap (λ s. made s (number_along 0 (map entry_of c.log))) (sym is.state) ∙ ap (made c.state) (sym is.number)

pub reader-moment : {S R C I : Type 0} (contexts : ℕ) (A : Slots S C) (B : Reader R C I) (cells : List (Cell S C)) (reader : ReaderCell R C I) (queued : List (List (Entry C))) → Stand contexts A B cells reader queued
    → naive (joined contexts A B) contexts ((world_of contexts cells reader queued).log contexts) ≡ reader_moment reader.state reader.number
reader-moment {S} {R} {C} {I} contexts A B cells reader queued h =
    let made : R → ℕ → Moment (S ⊎ R) = λ s n. reader_moment s n in
    ap (naive (joined contexts A B) contexts) (reader-log contexts cells reader queued) ∙ naive-reader contexts A B reader.steps
    ∙ ap (λ s. made s (number_along 0 (map (step_entry contexts) reader.steps))) (sym h.reader_is.state) ∙ ap (made reader.state) (sym h.reader_is.number)

-- what a step finds at a cell, and at the reader
pub finds-slot : {S R C I : Type 0} (contexts : ℕ) (A : Slots S C) (B : Reader R C I) (cells : List (Cell S C)) (reader : ReaderCell R C I) (queued : List (List (Entry C))) (d s : ℕ) (c : Cell S C)
    → Stand contexts A B cells reader queued → slice_get cells d ≡ Some c
    → finds (joined contexts A B) (world_of contexts cells reader queued) d s ≡ cond (A.is_spent c.state) None (lifted_found (first_from s (queue_at queued d)))
finds-slot {S} {R} {C} {I} contexts A B cells reader queued d s c h e =
    let L : Language (S ⊎ R) (C ⊎ I) = joined contexts A B in
    let w : World (C ⊎ I) = world_of contexts cells reader queued in
    let lt = is-slot contexts A B cells reader queued d c h e in
    let other : d ≡ contexts → ⊥ = λ i. omega arith in
    let none : ◌≡◌ {A = List (Entry (C ⊎ I))} (own_items contexts reader.rest d) [] = rw (ne_eqb d contexts other) refl in
    let queue : w.queue d ≡ map lifted (queue_at queued d) = ap (λ (es : List (Entry (C ⊎ I))). es ++ map lifted (queue_at queued d)) none in
    ap (λ b. cond (b && not (L.is_spent (naive L d (w.log d)).state)) (first_from s (w.queue d)) None) (le-leb d contexts (omega arith))
    ∙ ap (λ (m : Moment (S ⊎ R)). cond (not (L.is_spent m.state)) (first_from s (w.queue d)) None) (slot-moment contexts A B cells reader queued d c h e)
    ∙ ap (λ q. cond (not (A.is_spent c.state)) (first_from s q) None) queue ∙ ap (λ o. cond (not (A.is_spent c.state)) o None) (first_from-lifted s (queue_at queued d)) ∙ turned (A.is_spent c.state) (lifted_found (first_from s (queue_at queued d)))
  where
    turned : (b : Bool) (o : Option (Entry (C ⊎ I) × List (Entry (C ⊎ I)))) → cond (not b) o None ≡ cond b None o
    turned true o = refl
    turned false o = refl

pub finds-reader : {S R C I : Type 0} (contexts : ℕ) (A : Slots S C) (B : Reader R C I) (cells : List (Cell S C)) (reader : ReaderCell R C I) (queued : List (List (Entry C))) (s : ℕ) → Stand contexts A B cells reader queued
    → finds (joined contexts A B) (world_of contexts cells reader queued) contexts s ≡ first_from s (map (own contexts) (map inr reader.rest) ++ map lifted (queue_at queued contexts))
finds-reader {S} {R} {C} {I} contexts A B cells reader queued s h =
    let L : Language (S ⊎ R) (C ⊎ I) = joined contexts A B in
    let w : World (C ⊎ I) = world_of contexts cells reader queued in
    let items : ◌≡◌ {A = List (Entry (C ⊎ I))} (own_items contexts reader.rest contexts) (map (own contexts) (map inr reader.rest)) = rw (eq-eqb contexts contexts refl) refl in
    ap (λ b. cond (b && not (L.is_spent (naive L contexts (w.log contexts)).state)) (first_from s (w.queue contexts)) None) (le-leb contexts contexts (omega arith))
    ∙ ap (λ (m : Moment (S ⊎ R)). cond (not (L.is_spent m.state)) (first_from s (w.queue contexts)) None) (reader-moment contexts A B cells reader queued h)
    ∙ ap (λ (es : List (Entry (C ⊎ I))). first_from s (es ++ map lifted (queue_at queued contexts))) items
