-- The typed program of program files is their trees with names resolved: the same forms over the same parts in the same order, each
-- name by the number of what it stands for (`docs/TYPES.md`, "Names"). Names gives what names stand for; Types, Expressions, Events,
-- Statements and Units go form by form. Left to `Typed` (typed_program): that shapes fit and limits hold, so that no number is cut
-- (`held`) and no step stands behind a value without a shape; and to the codes: that what is evaluated at an `on` names no bound name.
use Rattle.std.specs.Prelude.{List, length, ◌≡◌}
use Rattle.epl_tree.specs.declared.unit.Unit.{Unit as File}
use Rattle.typed_program.specs.declared.program.Program.{Program}
use Rattle.name_resolution.specs.Units.{declarations_in, events_in, monitors_in, EventsAre, MonitorsAre}

pub record Resolves (units : List File) (program : Program) : Type 0 where
  pub types : EventsAre program.types (events_in (declarations_in units)) program.types
  pub monitors : MonitorsAre program 0 0 (monitors_in (declarations_in units))
  pub no_more : length program.monitors ≡ length (monitors_in (declarations_in units))
