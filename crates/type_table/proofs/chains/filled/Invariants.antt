use Rattle.std.proofs.Common.{◌≡◌, ◌++◌, drop}
use Rattle.std.specs.Prelude.{map}
use Rattle.type_table.specs.Kinds.{trees}
use Rattle.type_table.proofs.chains.filled.Given as goal

abbrev pub invariant-events : goal.invariant-events
invariant-events l = l.table.items ++ map (λ e. l.start) (trees (drop l._event-index l.kinds.decls.items)) ≡ map (λ e. l.start) (trees l.kinds.decls.items)
