-- The run of contexts and reader on one thread.
use Rattle.world_serial.specs.Common.{ℕ, suc, List, [], Entry, Cell, Program, Cargo, Item, Settings, CellPart, ReaderPart}
use Rattle.std.specs.Prelude.{◌≡◌, ◌+◌, ◌∷◌, ◌++◌, zero, Bool, false, ◌⊎◌, IfSome, map, slice_get}
use Rattle.actor_theory.specs.World.{World as Moment, turn_of, IsFinished}
use Rattle.actor_theory.specs.Joined.{slots_only}
use Rattle.actor_theory.specs.Machine.{ReaderCell, world_of, Stand, Stepped, without_items, fresh_reader, loaded_queues, queue_at, empty_queues, delivered, reader_after_item}
use Rattle.actor_theory.specs.Order.{ordered}
use Rattle.actor_theory.specs.Measure.{joined_weight, joined_cost}
use Rattle.actor_theory.specs.Rounding.{Rounded}
use Rattle.actor_theory.specs.Faithful.{IsBoot}
use Rattle.context_meaning.specs.Contexts.{Context}
use Rattle.naive_meaning.specs.Actors.{ReaderState, slots_of, reader_of, actors_of, item_sends}
use Rattle.record_book.specs.declared.record.Record.{Record}
use Rattle.context_core.specs.Cells.{fresh_part}
use Rattle.world_serial.specs.declared.world.World.{World}
use Rattle.world_serial.specs.Fitting.{IsFitting}
use Rattle.world_serial.specs.Queued.{records_of}

-- the cells, without their outboxes
abbrev pub cell_of : CellPart → Cell Context Cargo
cell_of c = c.cell

abbrev pub cells_in : List CellPart → List (Cell Context Cargo)
cells_in cells = map cell_of cells

-- a cell stands in its slot, and has handed over what it sent
pub record CellStands (contexts place : ℕ) (c : CellPart) : Type 0 where
  pub slot : c.cell.state.slot ≡ place
  pub outboxes : c.outboxes ≡ empty_queues (suc contexts)

-- each part stands at its log, and has handed over what it sent
pub record Standing (p : Program) (settings : Settings) (cells : List CellPart) (reader : ReaderPart) (queued : List (List (Entry Cargo))) : Type 0 where
  pub stand : Stand settings.contexts (slots_of p settings) (reader_of p settings.contexts) (cells_in cells) reader.cell queued
  pub each : (k : ℕ) → IfSome (slice_get cells k) (CellStands settings.contexts k)
  pub contexts : reader.contexts ≡ settings.contexts
  pub handed : reader.outboxes ≡ empty_queues (suc settings.contexts)

abbrev pub IsStanding : Program → Settings → World → Type 0
IsStanding p settings w = Standing p settings w.cells.items w.reader w.queued.items

-- the logs and queues of the parts
abbrev pub moment_of : ℕ → World → Moment (Cargo ⊎ Item)
moment_of contexts w = world_of contexts (cells_in w.cells.items) w.reader.cell w.queued.items

-- actor d has had its turn
abbrev pub TurnsOn : Program → Settings → Bool → ℕ → World → World → Bool → Type 0
TurnsOn p settings takes d old new found =
    Stepped settings.contexts (slots_of p settings) (reader_of p settings.contexts) (cells_in old.cells.items) old.reader.cell old.queued.items (turn_of (actors_of p settings) takes (moment_of settings.contexts old) d)
    (cells_in new.cells.items) new.reader.cell new.queued.items found

abbrev pub with_cell : ReaderCell ReaderState Cargo Item → ReaderPart → ReaderPart
with_cell cell r = record r { cell = cell }

-- the reader has taken the first of these items, where there is one, and has handed over what it sends
abbrev pub TakesFirst : Program → ReaderPart → List (List (Entry Cargo)) → List Item → ReaderPart → List (List (Entry Cargo)) → Type 0
TakesFirst p r queued [] r' queued' = (r' ≡ r) × (queued' ≡ queued)
TakesFirst p r queued (i ∷ rest) r' queued' = (r' ≡ with_cell (reader_after_item (reader_of p r.contexts) r.cell i rest) r) × (queued' ≡ delivered r.contexts (1 + r.cell.number) (slots_only r.contexts (item_sends r.contexts i)) queued)

-- what is handled costs one, and an item as many more as there are contexts for what it sends, and one
abbrev pub weight : (Context ⊎ ReaderState) → ℕ
weight = joined_weight (λ c. 0) (λ r. 0)

abbrev pub cost : ℕ → ℕ → Entry (Cargo ⊎ Item) → ℕ
cost contexts = joined_cost (λ d e. 1) (λ i. contexts + 2)

-- each actor has had its turn
pub record RoundsOn (p : Program) (settings : Settings) (takes : Bool) (old new : World) (handled : Bool) : Type 0 where
  pub standing : IsStanding p settings new
  pub fitting : IsFitting p new
  pub rounded : Rounded (actors_of p settings) weight (cost settings.contexts) takes (moment_of settings.contexts old) (moment_of settings.contexts new) handled
  -- the reader takes an item only where it may
  pub waits : takes ≡ false → new.reader.cell.rest ≡ old.reader.cell.rest

-- rounds have been made until one handled nothing
pub record FinishesOn (p : Program) (settings : Settings) (takes : Bool) (old new : World) : Type 0 where
  pub standing : IsStanding p settings new
  pub fitting : IsFitting p new
  pub finished : IsFinished (actors_of p settings) takes (moment_of settings.contexts old) (moment_of settings.contexts new)
  pub waits : takes ≡ false → new.reader.cell.rest ≡ old.reader.cell.rest

-- cells that have handled nothing, of the slots below n
abbrev pub fresh_parts : Settings → ℕ → List CellPart
fresh_parts settings zero = []
fresh_parts settings (suc n) = fresh_parts settings n ++ fresh_part n settings ∷ []

-- a reader without items that has handled nothing, and has handed over the loads
abbrev pub fresh_handed : Program → ℕ → ReaderPart
fresh_handed p contexts = record { contexts = contexts; cell = fresh_reader (reader_of p contexts) []; outboxes = empty_queues (suc contexts) }

-- nothing has been handled, no items are there, and the loads are queued
pub record IsFresh (p : Program) (settings : Settings) (w : World) : Type 0 where
  pub cells_are : w.cells.items ≡ fresh_parts settings settings.contexts
  pub reader_is : w.reader ≡ fresh_handed p settings.contexts
  pub queued_are : w.queued.items ≡ loaded_queues settings.contexts (reader_of p settings.contexts)
  pub fitting : IsFitting p w

-- boot is over, and these items are still to come
pub record IsBooted (p : Program) (settings : Settings) (items : List Item) (w : World) : Type 0 where
  pub standing : IsStanding p settings w
  pub fitting : IsFitting p w
  pub boot : IsBoot (actors_of p settings) (world_of settings.contexts (cells_in w.cells.items) (without_items w.reader.cell) w.queued.items)
  pub items_are : w.reader.cell.rest ≡ items

-- the record of the parts, with what is queued as left
abbrev pub record_of_world : Settings → World → Record
record_of_world settings w = record {
  settings = settings;
  contexts = records_of settings.contexts w.cells.items w.queued.items;
  reader = record { steps = w.reader.cell.steps; left = ordered (suc settings.contexts) (queue_at w.queued.items settings.contexts) };
}
