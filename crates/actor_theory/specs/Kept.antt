-- What is kept of a run: for each slot what it shows and its handlings, and the reader's steps.
use Rattle.std.specs.Prelude.{◌≡◌, ◌==◌, if◌then◌else◌, ◌⊎◌}
use Rattle.actor_theory.specs.Common.{ℕ, suc, List, [], Bool, false, Option, Some, None, map, length, slice_get, IfSome}
use Rattle.std.proofs.Common.{inr}
use Rattle.actor_theory.specs.declared.entry.Entry.{Entry}
use Rattle.actor_theory.specs.declared.entry.Handled.{Handled}
use Rattle.actor_theory.specs.declared.entry.ReaderStep.{ReaderStep}
use Rattle.actor_theory.specs.Language.{numbers_along}
use Rattle.actor_theory.specs.World.{World}
use Rattle.actor_theory.specs.Faithful.{IsDelivered, BeginsWithBoot, IsScheduledRun}
use Rattle.actor_theory.specs.Order.{ordered, left_of}
use Rattle.actor_theory.specs.Joined.{Slots, Reader, joined, lifted, slot_after, step_entry, step_number, items_of, IsUnspentSlot}

-- what is kept of a slot
pub record SlotKept (X C : Type 0) : Type 0 where
  pub shown : X
  pub handled : List (Handled C)
  pub left : List (Entry C)
  pub spent : Bool

-- what is kept of a run: of each slot, and of the reader
pub record Kept (X C I : Type 0) : Type 0 where
  pub slots : List (SlotKept X C)
  pub steps : List (ReaderStep I C)
  pub left : List (Entry C)

-- the entry that was handled
abbrev pub entry_of : {C : Type 0} → Handled C → Entry C
entry_of h = h.entry

-- the number of its handling
abbrev pub number_of : {C : Type 0} → Handled C → ℕ
number_of h = h.number

-- a slot's log
abbrev pub log_of : {X C : Type 0} → SlotKept X C → List (Entry C)
log_of c = map entry_of c.handled

-- the log of the slot at a place, if there is one
abbrev pub slot_log : {X C I : Type 0} → Option (SlotKept X C) → List (Entry (C ⊎ I))
slot_log None = []
slot_log (Some c) = map lifted (log_of c)

-- what is left of its queue
abbrev pub slot_left : {X C I : Type 0} → Option (SlotKept X C) → List (Entry (C ⊎ I))
slot_left None = []
slot_left (Some c) = map lifted c.left

-- the logs of all actors, and what is left of their queues
abbrev pub world_of_kept : {X C I : Type 0} → ℕ → Kept X C I → World (C ⊎ I)
world_of_kept contexts kept = record {
  log = λ k. if k == contexts then map (step_entry contexts) kept.steps else slot_log (slice_get kept.slots k);
  queue = λ k. if k == contexts then map lifted kept.left else slot_left (slice_get kept.slots k);
}

-- what a slot shows, and its numbers, are those of naive evaluation of its log
pub record IsNaive {S X C : Type 0} (A : Slots S C) (shows : S → X) (slot : ℕ) (c : SlotKept X C) : Type 0 where
  pub shown : c.shown ≡ shows (slot_after A (A.start slot) 0 (log_of c))
  pub numbers : map number_of c.handled ≡ numbers_along 0 (log_of c)
  pub spent : c.spent ≡ A.is_spent (slot_after A (A.start slot) 0 (log_of c))

-- the record says of each actor what naive evaluation of its log says
pub record IsNaiveKept {S X C I : Type 0} (contexts : ℕ) (A : Slots S C) (shows : S → X) (kept : Kept X C I) : Type 0 where
  pub count : length kept.slots ≡ contexts
  pub slots : (slot : ℕ) → IfSome (slice_get kept.slots slot) (IsNaive A shows slot)
  pub numbers : map step_number kept.steps ≡ numbers_along 0 (map (step_entry contexts) kept.steps)

-- in ascending order of senders: those of sender 0, then those of 1, up to the reader's
abbrev pub IsBySender : {C : Type 0} → ℕ → List (Entry C) → Type 0
IsBySender contexts left = left ≡ ordered (suc contexts) left

-- no entry stands behind the one that spent the slot; what is left is by sender, and nothing is left unless the slot is spent
pub record IsSlotEnded {S X C : Type 0} (contexts : ℕ) (A : Slots S C) (slot : ℕ) (c : SlotKept X C) : Type 0 where
  pub unspent : IsUnspentSlot A (A.start slot) 0 (log_of c)
  pub by_sender : IsBySender contexts c.left
  pub nothing_left : c.spent ≡ false → c.left ≡ []

-- a faithful record: each slot's part is that of naive evaluation over its log, the reader's that of its steps, each send reached its actor once and in order, and the logs begin with boot
pub record IsFaithful {S R X C I : Type 0} (contexts : ℕ) (A : Slots S C) (B : Reader R C I) (shows : S → X) (items : List I) (kept : Kept X C I) : Type 0 where
  pub naive : IsNaiveKept contexts A shows kept
  pub ended : (slot : ℕ) → IfSome (slice_get kept.slots slot) (IsSlotEnded contexts A slot)
  -- the items in the reader's steps are the items, all of them, in order
  pub items_are : items_of kept.steps ≡ items
  pub no_left : kept.left ≡ []
  pub delivered : IsDelivered (joined contexts A B) (map inr items) (world_of_kept contexts kept)
  pub boot : BeginsWithBoot (joined contexts A B) (world_of_kept contexts kept)

-- the record has the logs of a run, and its queues by sender
pub record IsKept {S R X C I : Type 0} (contexts : ℕ) (A : Slots S C) (B : Reader R C I) (shows : S → X) (world : World (C ⊎ I)) (kept : Kept X C I) : Type 0 where
  pub naive : IsNaiveKept contexts A shows kept
  pub logs : (d : ℕ) → (world_of_kept contexts kept).log d ≡ world.log d
  pub lefts : (d : ℕ) → (world_of_kept contexts kept).queue d ≡ left_of (joined contexts A B) world d

-- the record of boot, the picks, and rounds until one handles nothing
pub record IsScheduled {S R X C I : Type 0} (contexts : ℕ) (A : Slots S C) (B : Reader R C I) (shows : S → X) (items : List I) (picks : List (ℕ × Option ℕ)) (kept : Kept X C I) : Type 0 where
  pub world : World (C ⊎ I)
  pub scheduled : IsScheduledRun (joined contexts A B) (map inr items) picks world
  pub is_kept : IsKept contexts A B shows world kept
