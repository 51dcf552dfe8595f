use Rattle.std.proofs.Common.{◌≡◌}
use Rattle.path_bases.specs.Locals.{values_in}
use Rattle.tree_walker.proofs.run.own_locals.Given as goal

abbrev pub invariant-loop-value : goal.invariant-loop-value
invariant-loop-value l = values_in l.own ≡ l.yielded
