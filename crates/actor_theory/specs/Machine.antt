-- A machine of one thread: a cell per slot, a reader with the rest of its items, and a queue per actor of what others sent.
use Rattle.actor_theory.specs.Common.{ℕ, zero, suc, List, [], Bool, Option, Some, None, map, length, slice_get, IfSome, AllByRecursion}
use Rattle.std.specs.Prelude.{◌<◌, ◌≡◌, ◌+◌, ◌∷◌, ◌++◌, ◌==◌, if◌then◌else◌, ◌⊎◌, slice_index_or, remove}
use Rattle.std.specs.Option.{is_some}
use Rattle.std.proofs.Common.{inr}
use Rattle.actor_theory.specs.declared.entry.Entry.{Entry}
use Rattle.actor_theory.specs.declared.entry.Handled.{Handled}
use Rattle.actor_theory.specs.declared.entry.ReaderStep.{ReaderStep}
use Rattle.actor_theory.specs.declared.entry.ReaderStep.TheVariants.{Item, Entry as Taken}
use Rattle.actor_theory.specs.Language.{Sent, number_after, number_along, numbers_along, mail}
use Rattle.actor_theory.specs.World.{first_from, World, own, step, finds}
use Rattle.actor_theory.specs.Order.{ordered}
use Rattle.actor_theory.specs.Joined.{Slots, Reader, joined, lifted, slots_only, slot_after, reader_after, step_entry, step_number}
use Rattle.actor_theory.specs.Kept.{entry_of, number_of, SlotKept, Kept}

-- a slot: its state, its last number, and its log
pub record Cell (S C : Type 0) : Type 0 where
  pub state : S
  pub number : ℕ
  pub log : List (Handled C)

-- the reader: its state, its last number, its steps, and the items still to come
pub record ReaderCell (R C I : Type 0) : Type 0 where
  pub state : R
  pub number : ℕ
  pub steps : List (ReaderStep I C)
  pub rest : List I

-- the log of the cell at a place, if there is one
abbrev pub cell_log : {S C I : Type 0} → Option (Cell S C) → List (Entry (C ⊎ I))
cell_log None = []
cell_log (Some c) = map lifted (map entry_of c.log)

-- the queue at a place, if there is one
abbrev pub queue_in : {C : Type 0} → Option (List (Entry C)) → List (Entry C)
queue_in None = []
queue_in (Some queue) = queue

-- an actor's queue
abbrev pub queue_at : {C : Type 0} → List (List (Entry C)) → ℕ → List (Entry C)
queue_at queued k = queue_in (slice_get queued k)

-- the items still to come, for the reader alone
abbrev pub own_items : {C I : Type 0} → ℕ → List I → ℕ → List (Entry (C ⊎ I))
own_items contexts rest k = if k == contexts then map (own contexts) (map inr rest) else []

-- the machine's logs and queues; the reader's own items stand before what others sent it
abbrev pub world_of : {S R C I : Type 0} → ℕ → List (Cell S C) → ReaderCell R C I → List (List (Entry C)) → World (C ⊎ I)
world_of contexts cells reader queued = record {
  log = λ k. if k == contexts then map (step_entry contexts) reader.steps else cell_log (slice_get cells k);
  queue = λ k. own_items contexts reader.rest k ++ map lifted (queue_at queued k);
}

-- a cell's state and numbers are those of its log
pub record IsCellOf {S C : Type 0} (A : Slots S C) (slot : ℕ) (c : Cell S C) : Type 0 where
  pub state : c.state ≡ slot_after A (A.start slot) 0 (map entry_of c.log)
  pub number : c.number ≡ number_along 0 (map entry_of c.log)
  pub numbers : map number_of c.log ≡ numbers_along 0 (map entry_of c.log)

-- the reader's state and numbers are those of its steps
pub record IsReaderOf {R C I : Type 0} (contexts : ℕ) (B : Reader R C I) (r : ReaderCell R C I) : Type 0 where
  pub state : r.state ≡ reader_after B B.start r.steps
  pub number : r.number ≡ number_along 0 (map (step_entry contexts) r.steps)
  pub numbers : map step_number r.steps ≡ numbers_along 0 (map (step_entry contexts) r.steps)

-- there is a cell for each slot and a queue for each actor, cells and reader stand at their logs, and nothing in the reader's queue comes from itself
pub record Stand {S R C I : Type 0} (contexts : ℕ) (A : Slots S C) (B : Reader R C I) (cells : List (Cell S C)) (reader : ReaderCell R C I) (queued : List (List (Entry C))) : Type 0 where
  pub cells_count : length cells ≡ contexts
  pub queues_count : length queued ≡ suc contexts
  pub cells_are : (k : ℕ) → IfSome (slice_get cells k) (IsCellOf A k)
  pub reader_is : IsReaderOf contexts B reader
  pub from_others : AllByRecursion (λ e. e.sender ≡ contexts → ⊥) (queue_at queued contexts)

-- a cell that has handled an entry
abbrev pub cell_after : {S C : Type 0} → Slots S C → Cell S C → Entry C → Cell S C
cell_after A c e = record {
  state = A.handle c.state (number_after c.number e) e;
  number = number_after c.number e;
  log = c.log ++ (record { entry = e; number = number_after c.number e }) ∷ [];
}

-- a reader that has handled an entry
abbrev pub reader_after_entry : {R C I : Type 0} → Reader R C I → ReaderCell R C I → Entry C → ReaderCell R C I
reader_after_entry B r e = record { state = B.entry r.state e; number = number_after r.number e; steps = r.steps ++ Taken e (number_after r.number e) ∷ []; rest = r.rest }

-- a reader that has taken its next item, before these
abbrev pub reader_after_item : {R C I : Type 0} → Reader R C I → ReaderCell R C I → I → List I → ReaderCell R C I
reader_after_item B r i rest = record { state = B.item r.state i; number = 1 + r.number; steps = r.steps ++ Item i (1 + r.number) ∷ []; rest = rest }

-- what s sends under a number arrives at the queues, the first of which is that of k
abbrev pub arrived : {C : Type 0} → ℕ → ℕ → List (Sent C) → ℕ → List (List (Entry C)) → List (List (Entry C))
arrived s number sent k [] = []
arrived s number sent k (q ∷ qs) = (q ++ mail s number k sent) ∷ arrived s number sent (suc k) qs

-- what s sends under a number arrives, each entry at the end of its queue
abbrev pub delivered : {C : Type 0} → ℕ → ℕ → List (Sent C) → List (List (Entry C)) → List (List (Entry C))
delivered s number sent queued = arrived s number sent 0 queued

-- the machine has made a step, and has found an entry or not
pub record Stepped {S R C I : Type 0} (contexts : ℕ) (A : Slots S C) (B : Reader R C I) (cells : List (Cell S C)) (reader : ReaderCell R C I) (queued : List (List (Entry C))) (p : ℕ × ℕ)
    (cells' : List (Cell S C)) (reader' : ReaderCell R C I) (queued' : List (List (Entry C))) (found : Bool) : Type 0 where
  pub stand : Stand contexts A B cells' reader' queued'
  pub world : world_of contexts cells' reader' queued' ≡ step (joined contexts A B) (world_of contexts cells reader queued) p
  pub found_is : found ≡ is_some (finds (joined contexts A B) (world_of contexts cells reader queued) p.0 p.1)

-- cells that have handled nothing, of the slots below n
abbrev pub fresh_cells : {S C : Type 0} → Slots S C → ℕ → List (Cell S C)
fresh_cells A zero = []
fresh_cells A (suc n) = fresh_cells A n ++ (record { state = A.start n; number = 0; log = [] }) ∷ []

-- a reader that has handled nothing, with these items to come
abbrev pub fresh_reader : {R C I : Type 0} → Reader R C I → List I → ReaderCell R C I
fresh_reader B items = record { state = B.start; number = 0; steps = []; rest = items }

-- the reader without its items, as it is in boot
abbrev pub without_items : {R C I : Type 0} → ReaderCell R C I → ReaderCell R C I
without_items r = record { state = r.state; number = r.number; steps = r.steps; rest = [] }

-- so many empty queues
abbrev pub empty_queues : {C : Type 0} → ℕ → List (List (Entry C))
empty_queues zero = []
empty_queues (suc n) = [] ∷ empty_queues n

-- the queues at the start, with the loads
abbrev pub loaded_queues : {R C I : Type 0} → ℕ → Reader R C I → List (List (Entry C))
loaded_queues contexts B = delivered contexts 0 (slots_only contexts B.loads) (empty_queues (suc contexts))

-- what is kept of a cell, with its queue
abbrev pub slot_kept : {S X C : Type 0} → ℕ → Slots S C → (S → X) → Cell S C → List (Entry C) → SlotKept X C
slot_kept contexts A shows c queue = record { shown = shows c.state; handled = c.log; left = ordered (suc contexts) queue; spent = A.is_spent c.state }

-- what is kept of the cells from slot k on
abbrev pub slots_kept : {S X C : Type 0} → ℕ → Slots S C → (S → X) → List (List (Entry C)) → ℕ → List (Cell S C) → List (SlotKept X C)
slots_kept contexts A shows queued k [] = []
slots_kept contexts A shows queued k (c ∷ cells) = slot_kept contexts A shows c (queue_at queued k) ∷ slots_kept contexts A shows queued (suc k) cells

-- the record of the machine
abbrev pub kept_of : {S R X C I : Type 0} → ℕ → Slots S C → (S → X) → List (Cell S C) → ReaderCell R C I → List (List (Entry C)) → Kept X C I
kept_of contexts A shows cells reader queued = record { slots = slots_kept contexts A shows queued 0 cells; steps = reader.steps; left = ordered (suc contexts) (queue_at queued contexts) }

-- the place of the oldest entry of a sender
abbrev pub IsPlace : {C : Type 0} → ℕ → List (Entry C) → Option ℕ → Type 0
IsPlace s queue None = first_from s queue ≡ None
IsPlace {C} s queue (Some i) = (i < length queue) × ((d : Entry C) → first_from s queue ≡ Some (slice_index_or queue i d, remove queue i))
