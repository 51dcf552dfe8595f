use Rattle.std.proofs.Common.{◌≡◌, ◌-◌, length}
use Rattle.std.specs.Prelude.{map}
use Rattle.type_table.specs.Kinds.{trees}
use Rattle.type_table.specs.Chains.{wider, turns}
use Rattle.type_table.proofs.widths.widths.Given as goal

abbrev pub invariant-turns : goal.invariant-turns
invariant-turns l =
    let kinds = trees l.kinds.decls.items in
    turns (l.count - l._turn) (wider kinds) l.table.items ≡ turns (length kinds) (wider kinds) (map (λ e. 257) kinds)
