-- Cells, and what they answer.
use Rattle.std.specs.Prelude.{ℕ, List, [], ◌∷◌, ◌≡◌, ◌<◌, ◌-◌, ◌^◌, suc, Bool, true, false}
use Rattle.actor_theory.specs.declared.entry.Entry.{Entry}
use Rattle.actor_theory.specs.Joined.{Slots}
use Rattle.actor_theory.specs.Language.{number_after}
use Rattle.actor_theory.specs.Machine.{Cell, cell_after, delivered, empty_queues}
use Rattle.typed_program.specs.declared.program.Program.{Program}
use Rattle.record_book.specs.declared.cargo.Cargo.{Cargo}
use Rattle.record_book.specs.declared.record.ContextRecord.{ContextRecord}
use Rattle.record_book.specs.declared.record.Settings.{Settings}
use Rattle.context_meaning.specs.Contexts.{Context, fresh}
use Rattle.context_meaning.specs.Fits.{ContextFits}
use Rattle.naive_meaning.specs.Actors.{slots_of}
use Rattle.context_core.specs.declared.cell.Handling.{Handling}
use Rattle.context_core.specs.declared.cell.Handling.TheVariants.{Quiet, Spent}

-- a context that runs, and for each actor what it has sent there and not handed over
pub record CellPart : Type 0 where
  pub cell : Cell Context Cargo
  pub outboxes : List (List (Entry Cargo))

-- the context of a slot, that has handled nothing
abbrev pub fresh_part : ℕ → Settings → CellPart
fresh_part slot settings = record { cell = record { state = fresh slot settings.contexts settings.fuel; number = 0; log = [] }; outboxes = empty_queues (suc settings.contexts) }

-- it has handled an entry
abbrev pub part_after : Slots Context Cargo → CellPart → Entry Cargo → CellPart
part_after A c e = record {
  cell = cell_after A c.cell e;
  outboxes = delivered c.cell.state.slot (number_after c.cell.number e) (A.sent c.cell.state (number_after c.cell.number e) e) c.outboxes;
}

abbrev pub is_spent : Handling → Bool
is_spent Quiet = false
is_spent Spent = true

-- the record of a cell, with what is left for it
abbrev pub record_of : CellPart → List (Entry Cargo) → ContextRecord
record_of c left = record { lines = c.cell.state.lines; handled = c.cell.log; left = left; spent = c.cell.state.spent }

-- between handlings the context fits, nothing stands in its row, and there is less fuel than the greatest amount
pub record Rests (program : Program) (c : CellPart) : Type 0 where
  pub fits : ContextFits program c.cell.state
  pub row : c.cell.state.row ≡ []
  pub fuel : c.cell.state.fuel < 2 ^ 64 - 1
