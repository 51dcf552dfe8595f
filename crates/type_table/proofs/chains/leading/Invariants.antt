use Rattle.std.proofs.Common.{◌≡◌, ◌-◌, length}
use Rattle.type_table.specs.Kinds.{trees}
use Rattle.std.specs.Prelude.{map}
use Rattle.type_table.specs.Chains.{leads_on, aim_of, turns}
use Rattle.type_table.proofs.chains.leading.Given as goal

abbrev pub invariant-turns : goal.invariant-turns
invariant-turns l =
    let kinds = trees l.kinds.decls.items in
    let step = leads_on kinds l.search.link (aim_of l.search.aims l.search.target.now) in
    turns (l.count - l._turn) step l.table.items ≡ turns (length kinds) step (map (λ e. l.start) kinds)
