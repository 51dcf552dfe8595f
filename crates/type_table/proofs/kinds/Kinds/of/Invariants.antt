use Rattle.std.proofs.Common.{◌≡◌, [], drop}
use Rattle.type_table.specs.Kinds.{trees, kinds_after, kinds_of, declarations_of}
use Rattle.type_table.proofs.kinds.Kinds.of.Given as goal

abbrev pub invariant-units : goal.invariant-units
invariant-units l = kinds_after (trees l.kinds.decls.items) (declarations_of (drop l.unit-index l.units)) ≡ kinds_of l.units
