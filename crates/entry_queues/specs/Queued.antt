-- Entries on their way: a queue for each actor, the slots first and the reader last.
use Rattle.std.specs.Prelude.{ℕ, List, [], ◌∷◌, ◌++◌, ◌≡◌, Option, Some, None, length}
use Rattle.actor_theory.specs.declared.entry.Entry.{Entry}
use Rattle.actor_theory.specs.Machine.{queue_at, empty_queues}
use Rattle.record_book.specs.declared.cargo.Cargo.{Cargo}

-- the oldest entry, and the others
abbrev pub first_of : List (Entry Cargo) → Option (Entry Cargo)
first_of [] = None
first_of (e ∷ es) = Some e

abbrev pub rest_of : List (Entry Cargo) → List (Entry Cargo)
rest_of [] = []
rest_of (e ∷ es) = es

-- what was in each outbox is now behind what waits for its actor, and the outboxes are empty
pub record Gathers (outboxes queued outboxes' queued' : List (List (Entry Cargo))) : Type 0 where
  pub queues : (k : ℕ) → queue_at queued' k ≡ queue_at queued k ++ queue_at outboxes k
  pub count : length queued' ≡ length queued
  pub emptied : (k : ℕ) → queue_at outboxes' k ≡ []
  pub boxes_count : length outboxes' ≡ length outboxes
