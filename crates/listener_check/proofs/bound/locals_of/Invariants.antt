use Rattle.std.proofs.Common.{◌≡◌, ◌++◌, drop, map}
use Rattle.listener_check.specs.Bound.{local_of}
use Rattle.listener_check.proofs.bound.locals_of.Given as goal

abbrev pub invariant-loop-seen : goal.invariant-loop-seen
invariant-loop-seen l = l.bound ++ map local_of (drop l.seen-index l.own) ≡ map local_of l.own
