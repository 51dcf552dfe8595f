use Rattle.std.proofs.Common.{◌≡◌, ◌++◌, length, reverse}
use Rattle.live_context.proofs.front.put_row.Given as goal

abbrev pub invariant-loop-thing : goal.invariant-loop-thing
invariant-loop-thing l = l.row ++ reverse l.waiting ≡ l.initial.row ++ reverse l.initial.waiting

abbrev pub decreases-loop-thing : goal.decreases-loop-thing
decreases-loop-thing l = length l.row
