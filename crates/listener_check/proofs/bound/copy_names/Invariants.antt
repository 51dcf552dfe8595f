use Rattle.std.proofs.Common.{◌≡◌, take}
use Rattle.listener_check.proofs.bound.copy_names.Given as goal

abbrev pub invariant-loop-seen : goal.invariant-loop-seen
invariant-loop-seen l = l.copies ≡ take l.seen-index l.names
