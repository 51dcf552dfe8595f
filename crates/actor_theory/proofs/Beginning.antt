-- The machine at the start, with the loads queued; the items come after boot.
use Rattle.actor_theory.proofs.Common.{ℕ, zero, suc, List, [], length, Bool, true, false, cond, Some, None, refl, sym, ◌∙◌, ap, subst, arith, inl, inr, map, slice_get, IfSome, AllByRecursion, cases_lt, slice_get_past, Entry, mail, loaded, own, start, Slots, Reader, lifted, to_actors, slots_only, without_items, Cell, ReaderCell, cell_log, queue_at, world_of, IsCellOf, Stand, fresh_cells, fresh_reader, loaded_queues}
use Rattle.std.proofs.Common.{◌≡◌, ◌≤◌, ◌<◌, ◌∷◌, ◌++◌, ◌==◌, ◌⊎◌, length-append}
use Rattle.actor_theory.specs.World.{given}
use Rattle.actor_theory.specs.Joined.{joined}
use Rattle.actor_theory.specs.Machine.{empty_queues}
use Rattle.actor_theory.proofs.Queues.{length-arrived, delivered-at, delivered-lifted, slots-actors}
use Rattle.actor_theory.proofs.Machining.{world-same}
use Rattle.actor_theory.proofs.Reading.{mail-none}

pub length-fresh : {S C : Type 0} (A : Slots S C) (n : ℕ) → length (fresh_cells A n) ≡ n
length-fresh A zero = refl
length-fresh {S} {C} A (suc n) = let last : Cell S C = record { state = A.start n; number = 0; log = [] } in let ih = length-fresh A n in let more = length-append (fresh_cells A n) (last ∷ []) in omega arith

get-left : {X : Type 0} (xs ys : List X) (k : ℕ) → k < length xs → slice_get (xs ++ ys) k ≡ slice_get xs k
get-left [] ys k lt = absurd (omega arith)
get-left (x ∷ xs) ys zero lt = refl
get-left (x ∷ xs) ys (suc k) lt = get-left xs ys k (omega arith)

get-last : {X : Type 0} (xs : List X) (y : X) (k : ℕ) → k ≡ length xs → slice_get (xs ++ y ∷ []) k ≡ Some y
get-last [] y zero e = refl
get-last [] y (suc k) e = absurd (omega arith)
get-last (x ∷ xs) y zero e = absurd (omega arith)
get-last (x ∷ xs) y (suc k) e = get-last xs y k (omega arith)

-- what stands at a place
abbrev fresh_cell : {S C : Type 0} → Slots S C → ℕ → Cell S C
fresh_cell A k = record { state = A.start k; number = 0; log = [] }

fresh-get : {S C : Type 0} (A : Slots S C) (n k : ℕ) → k < n → slice_get (fresh_cells A n) k ≡ Some (fresh_cell A k)
fresh-get A zero k lt = absurd (omega arith)
fresh-get {S} {C} A (suc n) k lt = go (λ low. fresh-get A n k low) (cases_lt k n)
  where
    go : (k < n → slice_get (fresh_cells A n) k ≡ Some (fresh_cell A k)) → ((k < n) ⊎ (n ≤ k)) → slice_get (fresh_cells A n ++ fresh_cell A n ∷ []) k ≡ Some (fresh_cell A k)
    go ih (inl low) = let len = length-fresh A n in get-left (fresh_cells A n) (fresh_cell A n ∷ []) k (omega arith) ∙ ih low
    go ih (inr le) =
        let len = length-fresh A n in
        let same : k ≡ n = omega arith in
        let at : k ≡ length (fresh_cells A n) = omega arith in
        get-last (fresh_cells A n) (fresh_cell A n) k at ∙ ap (λ j. Some (fresh_cell A j)) (sym same)

fresh-cases : {S C : Type 0} (A : Slots S C) (n k : ℕ) → (slice_get (fresh_cells A n) k ≡ Some (fresh_cell A k)) ⊎ (slice_get (fresh_cells A n) k ≡ None)
fresh-cases {S} {C} A n k = go (cases_lt k n)
  where
    go : ((k < n) ⊎ (n ≤ k)) → (slice_get (fresh_cells A n) k ≡ Some (fresh_cell A k)) ⊎ (slice_get (fresh_cells A n) k ≡ None)
    go (inl lt) = inl (fresh-get A n k lt)
    go (inr le) = let len = length-fresh A n in inr (slice_get_past (fresh_cells A n) k (omega arith))

length-empty : (C : Type 0) (n : ℕ) → length (empty_queues {C = C} n) ≡ n
length-empty C zero = refl
length-empty C (suc n) = ap suc (length-empty C n)

empty-at : (C : Type 0) (n k : ℕ) → queue_at (empty_queues {C = C} n) k ≡ []
empty-at C zero k = refl
empty-at C (suc n) zero = refl
empty-at C (suc n) (suc k) = empty-at C n k

pub fresh-stand : {S R C I : Type 0} (contexts : ℕ) (A : Slots S C) (B : Reader R C I) (items : List I) → Stand contexts A B (fresh_cells A contexts) (fresh_reader B items) (loaded_queues contexts B)
fresh-stand {S} {R} {C} {I} contexts A B items = record {
  cells_count = length-fresh A contexts;
  queues_count = length-arrived contexts 0 (slots_only contexts B.loads) 0 (empty_queues (suc contexts)) ∙ length-empty C (suc contexts);
  cells_are = λ k. cell k (fresh-cases A contexts k);
  reader_is = record { state = refl; number = refl; numbers = refl };
  from_others = let P : Entry C → Type 0 = λ x. x.sender ≡ contexts → ⊥ in subst {A = List (Entry C)} (AllByRecursion P) (sym none) tt;
}
  where
    cell : (k : ℕ) → ((slice_get (fresh_cells A contexts) k ≡ Some (fresh_cell A k)) ⊎ (slice_get (fresh_cells A contexts) k ≡ None)) → IfSome (slice_get (fresh_cells A contexts) k) (IsCellOf A k)
    cell k (inl e) = rw e (record { state = refl; number = refl; numbers = refl })
    cell k (inr e) = rw e tt

    none : queue_at (loaded_queues contexts B) contexts ≡ []
    none =
        let count = length-empty C (suc contexts) in
        delivered-at contexts 0 (slots_only contexts B.loads) (empty_queues (suc contexts)) contexts (omega arith) ∙ ap (λ q. q ++ mail contexts 0 contexts (slots_only contexts B.loads)) (empty-at C (suc contexts) contexts) ∙ mail-none contexts 0 B.loads

-- without items it is the start of the language
pub fresh-world : {S R C I : Type 0} (contexts : ℕ) (A : Slots S C) (B : Reader R C I) → world_of contexts (fresh_cells A contexts) (fresh_reader B []) (loaded_queues contexts B) ≡ start (joined contexts A B) []
fresh-world {S} {R} {C} {I} contexts A B =
    world-same (world_of contexts (fresh_cells A contexts) (fresh_reader B []) (loaded_queues contexts B)) (start (joined contexts A B) []) (λ k. log k (fresh-cases A contexts k) (k == contexts)) queue
  where
    log : (k : ℕ) → ((slice_get (fresh_cells A contexts) k ≡ Some (fresh_cell A k)) ⊎ (slice_get (fresh_cells A contexts) k ≡ None)) → (b : Bool) → ◌≡◌ {A = List (Entry (C ⊎ I))} (cond b [] (cell_log (slice_get (fresh_cells A contexts) k))) []
    log k h true = refl
    log k (inl e) false = ap cell_log e
    log k (inr e) false = ap cell_log e

    no-items : (k : ℕ) (b : Bool) → ◌≡◌ {A = List (Entry (C ⊎ I))} (cond b [] []) []
    no-items k true = refl
    no-items k false = refl

    queue : (k : ℕ) → (world_of contexts (fresh_cells A contexts) (fresh_reader B []) (loaded_queues contexts B)).queue k ≡ mail contexts 0 k (loaded (joined contexts A B) [])
    queue k =
        ap (λ (es : List (Entry (C ⊎ I))). es ++ map lifted (queue_at (loaded_queues contexts B) k)) (no-items k (k == contexts)) ∙ delivered-lifted contexts contexts 0 (slots_only contexts B.loads) (empty_queues (suc contexts)) k (length-empty C (suc contexts))
        ∙ ap (λ q. map lifted q ++ mail contexts 0 k (to_actors contexts (slots_only contexts B.loads))) (empty-at C (suc contexts) k) ∙ ap (mail contexts 0 k) (slots-actors contexts B.loads)

-- a reader stands without its items as with them
pub without-stand : {S R C I : Type 0} (contexts : ℕ) (A : Slots S C) (B : Reader R C I) (cells : List (Cell S C)) (reader : ReaderCell R C I) (queued : List (List (Entry C))) → Stand contexts A B cells reader queued
    → Stand contexts A B cells (without_items reader) queued
without-stand contexts A B cells reader queued h = record {
  cells_count = h.cells_count;
  queues_count = h.queues_count;
  cells_are = h.cells_are;
  reader_is = record { state = h.reader_is.state; number = h.reader_is.number; numbers = h.reader_is.numbers };
  from_others = h.from_others;
}

-- the items, given to a machine that had none
pub given-world : {S R C I : Type 0} (contexts : ℕ) (A : Slots S C) (B : Reader R C I) (cells : List (Cell S C)) (reader : ReaderCell R C I) (queued : List (List (Entry C)))
    → world_of contexts cells reader queued ≡ given (joined contexts A B) (map inr reader.rest) (world_of contexts cells (without_items reader) queued)
given-world {S} {R} {C} {I} contexts A B cells reader queued =
    world-same (world_of contexts cells reader queued) (given (joined contexts A B) (map inr reader.rest) (world_of contexts cells (without_items reader) queued)) (λ k. refl) (λ k. queue k (k == contexts))
  where
    queue : (k : ℕ) (b : Bool) → ◌≡◌ {A = List (Entry (C ⊎ I))} (cond b (map (own contexts) (map inr reader.rest)) [] ++ map lifted (queue_at queued k))
        (cond b (map (own contexts) (map inr reader.rest)) [] ++ (cond b [] [] ++ map lifted (queue_at queued k)))
    queue k true = refl
    queue k false = refl
