use Rattle.std.proofs.Common.{◌≡◌, ◌++◌, drop}
use Rattle.type_table.specs.Kinds.{trees}
use Rattle.std.specs.Prelude.{map}
use Rattle.type_table.specs.Chains.{fields_by}
use Rattle.type_table.proofs.widths.wider.Given as goal

abbrev pub invariant-events : goal.invariant-events
invariant-events l = let width = fields_by l.kinds.names l.table in l.next.items ++ map width (trees (drop l.event-index l.kinds.decls.items)) ≡ map width (trees l.kinds.decls.items)
