use Rattle.std.proofs.Common.{◌≡◌, ◌++◌, drop, map}
use Rattle.stmt_check.specs.Bodies.{bound_seen}
use Rattle.stmt_check.proofs.callback.with_bound.Given as goal

abbrev pub invariant-names : goal.invariant-names
invariant-names l = l.names ++ map (bound_seen l.captured) (drop l.seen-index l.bound) ≡ l.fn.outer ++ map (bound_seen l.captured) l.bound
