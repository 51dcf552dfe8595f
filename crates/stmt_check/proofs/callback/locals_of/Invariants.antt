use Rattle.std.proofs.Common.{◌≡◌, ◌++◌, drop, map}
use Rattle.stmt_check.specs.Bodies.{local_of}
use Rattle.stmt_check.proofs.callback.locals_of.Given as goal

abbrev pub invariant-names : goal.invariant-names
invariant-names l = l.locals ++ map local_of (drop l.seen-index l.captured) ≡ map local_of l.captured
