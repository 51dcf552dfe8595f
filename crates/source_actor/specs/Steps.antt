-- The steps of the reader.
use Rattle.std.specs.Prelude.{ℕ, ℤ, List, [], ◌∷◌, ◌+◌, Bool, true, false}
use Rattle.actor_theory.specs.declared.entry.Entry.{Entry}
use Rattle.actor_theory.specs.Joined.{slots_only}
use Rattle.actor_theory.specs.Machine.{ReaderCell, delivered, fresh_reader, loaded_queues, reader_after_entry, reader_after_item}
use Rattle.epl_values.specs.declared.value.Value.{Value}
use Rattle.typed_program.specs.declared.program.Program.{Program}
use Rattle.record_book.specs.declared.cargo.Cargo.{Cargo}
use Rattle.record_book.specs.declared.cargo.Cargo.TheVariants as cargo
use Rattle.record_book.specs.declared.item.Item.{Item}
use Rattle.record_book.specs.declared.record.ReaderRecord.{ReaderRecord}
use Rattle.naive_meaning.specs.Actors.{ReaderState, reader_of, item_sends}

-- a reader among so many contexts, and for each actor what it has sent there and not handed over
pub record ReaderPart : Type 0 where
  pub contexts : ℕ
  pub cell : ReaderCell ReaderState Cargo Item
  pub outboxes : List (List (Entry Cargo))

-- it has handled nothing, and has sent the loads
abbrev pub fresh_part : Program → ℕ → List Item → ReaderPart
fresh_part p contexts items = record { contexts = contexts; cell = fresh_reader (reader_of p contexts) items; outboxes = loaded_queues contexts (reader_of p contexts) }

-- the entry that an event sends, under a number
abbrev pub event_entry : ℕ → ℕ → Value → Entry Cargo
event_entry contexts number event = record { sender = contexts; stamp = number; cargo = cargo.Event event }

-- the entry that a time sends, under a number
abbrev pub time_entry : ℕ → ℕ → ℤ → Entry Cargo
time_entry contexts number t = record { sender = contexts; stamp = number; cargo = cargo.Time t }

-- a channel has a name
abbrev pub is_named : List ℕ → Bool
is_named [] = false
is_named (b ∷ channel) = true

-- it has handled an entry
abbrev pub part_after_entry : Program → ReaderPart → Entry Cargo → ReaderPart
part_after_entry p r e = record r { cell = reader_after_entry (reader_of p r.contexts) r.cell e }

-- it has taken the first of these items, where there is one
abbrev pub part_after_first : Program → ReaderPart → List Item → ReaderPart
part_after_first p r [] = r
part_after_first p r (i ∷ rest) = record r { cell = reader_after_item (reader_of p r.contexts) r.cell i rest; outboxes = delivered r.contexts (1 + r.cell.number) (slots_only r.contexts (item_sends r.contexts i)) r.outboxes }

-- there is one
abbrev pub has_first : List Item → Bool
has_first [] = false
has_first (i ∷ rest) = true

-- its record, with what is left for it
abbrev pub record_of : ReaderPart → List (Entry Cargo) → ReaderRecord
record_of r left = record { steps = r.cell.steps; left = left }
