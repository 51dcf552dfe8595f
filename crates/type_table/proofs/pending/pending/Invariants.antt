use Rattle.type_table.specs.Kinds.{trees}
use Rattle.type_table.specs.Pending.{ArePending}
use Rattle.type_table.proofs.pending.pending.Given as goal

abbrev pub invariant-turns : goal.invariant-turns
invariant-turns l = ArePending (trees l.kinds.decls.items) l.table.items
