-- Cargo, entries and items that fit a typed program.
use Rattle.std.specs.List.{All}
use Rattle.std.specs.Prelude.{◌<◌, ◌-◌, ◌^◌, ◌≤ℤ◌, ℤ, pos, length}
use Rattle.record_book.specs.Common.{List, Program, Cargo, Item}
use Rattle.epl_values.specs.declared.value.Value.{out-Value}
use Rattle.value_shapes.specs.Fits.{IsEvent}
use Rattle.actor_theory.specs.declared.entry.Entry.{Entry}
use Rattle.record_book.specs.declared.cargo.Cargo.TheVariants as cargo
use Rattle.record_book.specs.declared.item.Item.TheVariants as item

-- a time of up to twelve digits of seconds, in tenths
abbrev pub IsTime : ℤ → Type 0
IsTime t = (pos 0 ≤ℤ t) × (t ≤ℤ pos (10 ^ 13 - 1))

-- what an entry carries is there and has its shape
abbrev pub CargoFits : Program → Cargo → Type 0
CargoFits program (cargo.Load monitor) = monitor < length program.monitors
CargoFits program (cargo.Event e) = IsEvent program.types e (out-Value e)
CargoFits program (cargo.Time t) = IsTime t

-- an entry carries what the program has
abbrev pub EntryFits : Program → Entry Cargo → Type 0
EntryFits program e = CargoFits program e.cargo

abbrev pub EntriesFit : Program → List (Entry Cargo) → Type 0
EntriesFit program entries = All (EntryFits program) entries

-- an event of a type of the program, with values of its fields' shapes, or a time
abbrev pub ItemFits : Program → Item → Type 0
ItemFits program (item.Event channel event) = IsEvent program.types event (out-Value event)
ItemFits program (item.Time t) = IsTime t

abbrev pub ItemsFit : Program → List Item → Type 0
ItemsFit program items = All (ItemFits program) items
