use Rattle.std.proofs.Common.{◌≡◌, drop}
use Rattle.type_table.specs.Kinds.{trees, kinds_after}
use Rattle.type_table.proofs.kinds.Kinds.with_unit.Given as goal

abbrev pub invariant-declarations : goal.invariant-declarations
invariant-declarations l = kinds_after (trees l.kinds.decls.items) (drop l.declaration-index l.unit.declarations) ≡ kinds_after (trees l.fn.self.decls.items) l.unit.declarations
