-- Parts that fit a typed program.
use Rattle.world_serial.specs.Common.{List, Entry, Program, Cargo, Item, CellPart}
use Rattle.std.specs.List.{All}
use Rattle.record_book.specs.Fits.{EntriesFit, ItemsFit}
use Rattle.context_core.specs.Cells.{Rests}
use Rattle.world_serial.specs.declared.world.World.{World}

-- cells between handlings, entries that wait, and items still to come
pub record Fitting (p : Program) (cells : List CellPart) (rest : List Item) (queued : List (List (Entry Cargo))) : Type 0 where
  pub cells_fit : All (Rests p) cells
  pub items_fit : ItemsFit p rest
  pub queued_fit : All (EntriesFit p) queued

-- the parts of a world fit
abbrev pub IsFitting : Program → World → Type 0
IsFitting p w = Fitting p w.cells.items w.reader.cell.rest w.queued.items
