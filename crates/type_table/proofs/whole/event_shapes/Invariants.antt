use Rattle.std.proofs.Common.{◌≡◌, ◌++◌, drop}
use Rattle.std.specs.Prelude.{map}
use Rattle.type_table.specs.Kinds.{trees}
use Rattle.type_table.specs.Gathers.{event_shape, numbers}
use Rattle.type_table.proofs.whole.event_shapes.Given as goal

abbrev pub invariant-events : goal.invariant-events
invariant-events l = let shape = event_shape (numbers (trees l.kinds.decls.items)) in l.shapes ++ map shape (trees (drop l.event-index l.kinds.decls.items)) ≡ map shape (trees l.kinds.decls.items)
