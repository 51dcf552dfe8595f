use Rattle.std.proofs.Common.{◌≡◌, ◌++◌, drop}
use Rattle.type_table.specs.Kinds.{trees}
use Rattle.std.specs.Prelude.{map}
use Rattle.type_table.specs.Chains.{begins, aim_of}
use Rattle.type_table.proofs.chains.longer.Given as goal

abbrev pub invariant-events : goal.invariant-events
invariant-events l =
    let test = begins l.search.link (aim_of l.search.aims l.search.target.now) l.kinds.names l.table in
    l.next.items ++ map test (trees (drop l.event-index l.kinds.decls.items)) ≡ map test (trees l.kinds.decls.items)
