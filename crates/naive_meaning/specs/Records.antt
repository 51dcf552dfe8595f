-- Records of runs: which are faithful to a program, its items and its settings, and which one a schedule makes.
use Rattle.naive_meaning.specs.Common.{ℕ, List, Option, Program, Cargo, Line, Context}
use Rattle.std.specs.Prelude.{◌≡◌, map}
use Rattle.actor_theory.specs.Kept as kept
use Rattle.record_book.specs.declared.item.Item.{Item}
use Rattle.record_book.specs.declared.record.Settings.{Settings}
use Rattle.record_book.specs.declared.record.ContextRecord.{ContextRecord}
use Rattle.record_book.specs.declared.record.Record.{Record}
use Rattle.naive_meaning.specs.Actors.{slots_of, reader_of}

-- what a record shows of a context besides its handlings: its lines
abbrev pub shown : Context → List Line
shown c = c.lines

abbrev pub slot_kept : ContextRecord → kept.SlotKept (List Line) Cargo
slot_kept c = record { shown = c.lines; handled = c.handled; left = c.left; spent = c.spent }

abbrev pub kept_of : Record → kept.Kept (List Line) Cargo Item
kept_of r = record { slots = map slot_kept r.contexts; steps = r.reader.steps; left = r.reader.left }

-- a record is faithful: it has these settings, and each context's lines, numbers and mark are those of naive evaluation
-- over its log, each send stands once in the log of its context or is left there, in each sender's order and after its
-- cause, the items are all taken in order, boot comes first, and nothing is left but at spent contexts
pub record IsFaithful (p : Program) (items : List Item) (settings : Settings) (r : Record) : Type 0 where
  pub same_settings : r.settings ≡ settings
  pub faithful : kept.IsFaithful settings.contexts (slots_of p settings) (reader_of p settings.contexts) shown items (kept_of r)

-- the record that boot, these picks, and rounds until one handles nothing make
pub record IsScheduled (p : Program) (items : List Item) (settings : Settings) (picks : List (ℕ × Option ℕ)) (r : Record) : Type 0 where
  pub same_settings : r.settings ≡ settings
  pub scheduled : kept.IsScheduled settings.contexts (slots_of p settings) (reader_of p settings.contexts) shown items picks (kept_of r)
