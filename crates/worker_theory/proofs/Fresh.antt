-- What workers may begin with: nothing handled, the loads queued, and the items to come.
use Rattle.std.proofs.Common.{◌≡◌, ℕ, zero, suc, ◌<◌, List, [], ◌∷◌, ◌++◌, Bool, true, false, ◌==◌, cond, refl, sym, ◌∙◌, ap, subst, append-nil, arith, ◌⊎◌, inl, inr, map, length, slice_get, Option, Some, None}
use Rattle.std.proofs.lemmas.List.{map-append}
use Rattle.actor_theory.specs.declared.entry.Entry.{Entry}
use Rattle.actor_theory.specs.Language.{by}
use Rattle.actor_theory.specs.World.{World, start, given}
use Rattle.actor_theory.specs.Joined.{Slots, Reader, joined, lifted}
use Rattle.actor_theory.specs.Machine.{Cell, world_of, Stand, queue_at, empty_queues, fresh_cells, fresh_reader, loaded_queues}
use Rattle.actor_theory.proofs.Beginning.{fresh-stand, fresh-world, given-world, length-fresh}
use Rattle.actor_theory.proofs.Given.{given-run}
use Rattle.actor_theory.proofs.Joining.{joined-quiet}
use Rattle.actor_theory.proofs.Running.{IsRun, start-run}
use Rattle.worker_theory.specs.Working.{Sender, IsHolding, cell_of, box_of, outbox_of, fresh_senders, fresh_source}

-- their cells are those that a machine begins with
cells-fresh : {S C : Type 0} (A : Slots S C) (contexts n : ℕ) → map cell_of (fresh_senders A contexts n) ≡ fresh_cells A n
cells-fresh A contexts zero = refl
cells-fresh {S} {C} A contexts (suc n) =
    let one : Sender S C = record { cell = record { state = A.start n; number = 0; log = [] }; boxes = empty_queues (suc contexts) } in
    map-append cell_of (fresh_senders A contexts n) (one ∷ []) ∙ ap (λ l. l ++ cell_of one ∷ []) (cells-fresh A contexts n)

-- each of the empty queues is empty
pub queues-empty : (C : Type 0) (n k : ℕ) → queue_at (empty_queues {C = C} n) k ≡ []
queues-empty C zero k = refl
queues-empty C (suc n) zero = refl
queues-empty C (suc n) (suc k) = queues-empty C n k

-- there are as many as wanted
pub queues-length : (C : Type 0) (n : ℕ) → length (empty_queues {C = C} n) ≡ n
queues-length C zero = refl
queues-length C (suc n) = ap suc (queues-length C n)

-- the last place of a longer list
get-end : {X : Type 0} (xs : List X) (y : X) (k : ℕ) (x : X) → slice_get (xs ++ y ∷ []) k ≡ Some x → (slice_get xs k ≡ Some x) ⊎ ((k ≡ length xs) × (x ≡ y))
get-end [] y zero x e = let same : y ≡ x = cc in inr (refl, sym same)
get-end [] y (suc k) x e = absurd (cc)
get-end (z ∷ zs) y zero x e = inl e
get-end (z ∷ zs) y (suc k) x e = go (get-end zs y k x e)
  where
    go : ((slice_get zs k ≡ Some x) ⊎ ((k ≡ length zs) × (x ≡ y))) → (slice_get zs k ≡ Some x) ⊎ ((suc k ≡ suc (length zs)) × (x ≡ y))
    go (inl h) = inl h
    go (inr h) = inr (ap suc h.0, h.1)

-- there are as many slots as wanted
pub length-senders : {S C : Type 0} (A : Slots S C) (contexts n : ℕ) → length (fresh_senders A contexts n) ≡ n
length-senders A contexts n = sym (count (fresh_senders A contexts n)) ∙ ap length (cells-fresh A contexts n) ∙ length-fresh A n
  where
    count : {S C : Type 0} (xs : List (Sender S C)) → length (map cell_of xs) ≡ length xs
    count [] = refl
    count (x ∷ xs) = ap suc (count xs)

-- the cell of a slot
pub sender-at : {S C : Type 0} (A : Slots S C) (contexts n k : ℕ) (x : Sender S C) → slice_get (fresh_senders A contexts n) k ≡ Some x → (k < n) × (x ≡ record { cell = record { state = A.start k; number = 0; log = [] }; boxes = empty_queues (suc contexts) })
sender-at A contexts zero k x e = absurd (cc)
sender-at {S} {C} A contexts (suc n) k x e =
    let one : ℕ → Sender S C = λ j. record { cell = record { state = A.start j; number = 0; log = [] }; boxes = empty_queues (suc contexts) } in
    go (λ h. sender-at A contexts n k x h) (get-end (fresh_senders A contexts n) (one n) k x e)
  where
    go : (slice_get (fresh_senders A contexts n) k ≡ Some x → (k < n) × (x ≡ record { cell = record { state = A.start k; number = 0; log = [] }; boxes = empty_queues (suc contexts) }))
        → ((slice_get (fresh_senders A contexts n) k ≡ Some x) ⊎ ((k ≡ length (fresh_senders A contexts n)) × (x ≡ record { cell = record { state = A.start n; number = 0; log = [] }; boxes = empty_queues (suc contexts) })))
        → (k < suc n) × (x ≡ record { cell = record { state = A.start k; number = 0; log = [] }; boxes = empty_queues (suc contexts) })
    go ih (inl h) = let low = ih h in (omega (arith, low.0), low.1)
    go ih (inr h) =
        let count = length-senders A contexts n in
        let same : k ≡ n = omega (arith, h.0, count) in
        let made : ℕ → Sender S C = λ j. record { cell = record { state = A.start j; number = 0; log = [] }; boxes = empty_queues (suc contexts) } in
        (omega (arith, same), h.1 ∙ ap made (sym same))

-- no outbox has anything
boxes-fresh : {S R C I : Type 0} (contexts : ℕ) (A : Slots S C) (B : Reader R C I) (items : List I) (s d : ℕ) → ◌≡◌ {A = List (Entry (C ⊎ I))} (outbox_of contexts (fresh_senders A contexts contexts) (fresh_source B contexts items) s d) []
boxes-fresh {S} {R} {C} {I} contexts A B items s d = go (s == contexts)
  where
    box : (o : Option (Sender S C)) → slice_get (fresh_senders A contexts contexts) s ≡ o → box_of o d ≡ []
    box None e = refl
    box (Some x) e = ap (λ (y : Sender S C). queue_at y.boxes d) (sender-at A contexts contexts s x e).1 ∙ queues-empty C (suc contexts) d

    go : (b : Bool) → ◌≡◌ {A = List (Entry (C ⊎ I))} (map lifted (cond b (queue_at (empty_queues contexts) d) (box_of (slice_get (fresh_senders A contexts contexts) s) d))) []
    go true = ap (map lifted) (queues-empty C contexts d)
    go false = ap (map lifted) (box (slice_get (fresh_senders A contexts contexts) s) refl)

-- what workers begin with holds
pub fresh-holds : {S R C I : Type 0} (contexts : ℕ) (A : Slots S C) (B : Reader R C I) (items : List I) → IsHolding contexts A B items (fresh_senders A contexts contexts) (fresh_source B contexts items) (loaded_queues contexts B)
fresh-holds {S} {R} {C} {I} contexts A B items = record {
  stand = let P : List (Cell S C) → Type 0 = λ cells. Stand contexts A B cells (fresh_reader B items) (loaded_queues contexts B) in subst P (sym (cells-fresh A contexts contexts)) (fresh-stand contexts A B items);
  boxes = λ k x e. ap (λ (y : Sender S C). length y.boxes) (sender-at A contexts contexts k x e).1 ∙ queues-length C (suc contexts);
  source_boxes = queues-length C contexts;
  holds = record {
    each = λ s d. ap (λ (l : List (Entry (C ⊎ I))). by s (w.log d ++ w.queue d) ++ l) (boxes-fresh contexts A B items s d) ∙ append-nil (by s (w.log d ++ w.queue d)) ∙ run.each s d;
    unspent = run.unspent;
    others = run.others;
  };
}
  where
    w : World (C ⊎ I)
    w = world_of contexts (map cell_of (fresh_senders A contexts contexts)) (fresh_reader B items) (loaded_queues contexts B)

    world : w ≡ given (joined contexts A B) (map inr items) (start (joined contexts A B) [])
    world = ap (λ (cells : List (Cell S C)). world_of contexts cells (fresh_reader B items) (loaded_queues contexts B)) (cells-fresh A contexts contexts)
        ∙ given-world contexts A B (fresh_cells A contexts) (fresh_reader B items) (loaded_queues contexts B) ∙ ap (given (joined contexts A B) (map inr items)) (fresh-world contexts A B)

    run : IsRun (joined contexts A B) (map inr items) w
    run = let P : World (C ⊎ I) → Type 0 = IsRun (joined contexts A B) (map inr items) in
        subst P (sym world) (given-run (joined contexts A B) (map inr items) (start (joined contexts A B) []) (joined-quiet contexts A B) (start-run (joined contexts A B) []))

-- one more empty queue, at the end or at the front
pub empty-more : (C : Type 0) (n : ℕ) → ◌≡◌ {A = List (List (Entry C))} (empty_queues n ++ [] ∷ []) (empty_queues (suc n))
empty-more C zero = refl
empty-more C (suc n) = ap (λ (qs : List (List (Entry C))). [] ∷ qs) (empty-more C n)
