-- The order of a record's handlings, and the run along it.
use Rattle.std.specs.Prelude.{◌==◌, if◌then◌else◌, ◌⊎◌}
use Rattle.actor_theory.specs.Common.{ℕ, suc, List, [], Option, Some, None, map, slice_get}
use Rattle.std.proofs.Common.{inr}
use Rattle.actor_theory.specs.declared.entry.Handled.{Handled}
use Rattle.actor_theory.specs.declared.entry.ReaderStep.{ReaderStep}
use Rattle.actor_theory.specs.World.{start, steps}
use Rattle.actor_theory.specs.Order.{Handling, merged, pick_of, FindsEach}
use Rattle.actor_theory.specs.Joined.{Slots, Reader, joined, lifted, step_entry, step_number}
use Rattle.actor_theory.specs.Kept.{SlotKept, Kept, IsKept}

-- a slot's handling
abbrev pub slot_handling : {C I : Type 0} → ℕ → Handled C → Handling (C ⊎ I)
slot_handling slot h = record { number = h.number; actor = slot; entry = lifted h.entry }

-- a reader's step, as a handling
abbrev pub reader_handling : {I C : Type 0} → ℕ → ReaderStep I C → Handling (C ⊎ I)
reader_handling reader s = record { number = step_number s; actor = reader; entry = step_entry reader s }

-- the handlings of the slot at a place, if there is one
abbrev pub slot_handlings : {X C I : Type 0} → ℕ → Option (SlotKept X C) → List (Handling (C ⊎ I))
slot_handlings slot None = []
slot_handlings slot (Some c) = map (slot_handling slot) c.handled

-- an actor's handlings, with the numbers that the record has
abbrev pub kept_handlings : {X C I : Type 0} → ℕ → Kept X C I → ℕ → List (Handling (C ⊎ I))
kept_handlings contexts kept d = if d == contexts then map (reader_handling contexts) kept.steps else slot_handlings d (slice_get kept.slots d)

-- all handlings in ascending order of number, then of actor, then of place, each as its actor and its entry's sender
abbrev pub order_of_kept : {X C I : Type 0} → ℕ → Kept X C I → List (ℕ × ℕ)
order_of_kept contexts kept = map pick_of (merged (kept_handlings contexts kept) (suc contexts))

-- the steps of the order find an entry each, from the start on, and give the same record
pub record IsReplayedKept {S R X C I : Type 0} (contexts : ℕ) (A : Slots S C) (B : Reader R C I) (shows : S → X) (items : List I) (kept : Kept X C I) : Type 0 where
  pub finds : FindsEach (joined contexts A B) (start (joined contexts A B) (map inr items)) (order_of_kept contexts kept)
  pub same : IsKept contexts A B shows (steps (joined contexts A B) (start (joined contexts A B) (map inr items)) (order_of_kept contexts kept)) kept
