use Rattle.std.proofs.Common.{◌≡◌, ◌++◌, drop}
use Rattle.std.specs.Prelude.{map}
use Rattle.type_table.specs.Kinds.{trees}
use Rattle.type_table.proofs.widths.filled.Given as goal

abbrev pub invariant-events : goal.invariant-events
invariant-events l = l.table.items ++ map (λ e. 257) (trees (drop l._event-index l.kinds.decls.items)) ≡ map (λ e. 257) (trees l.kinds.decls.items)
