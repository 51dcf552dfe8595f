use Rattle.std.proofs.Common.{◌≡◌, ◌++◌, drop, map}
use Rattle.stmt_check.specs.Bodies.{outer_seen}
use Rattle.stmt_check.proofs.callback.outer_names.Given as goal

abbrev pub invariant-names : goal.invariant-names
invariant-names l = l.outer ++ map (outer_seen l.captured) (drop l.seen-index l.names) ≡ map (outer_seen l.captured) l.names
