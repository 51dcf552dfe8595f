use Rattle.std.proofs.Common.{◌≡◌, ◌++◌, length}
use Rattle.entry_queues.proofs.queued.move_all.Given as goal

abbrev pub invariant-entries : goal.invariant-entries
invariant-entries l = l.to ++ l.from ≡ l.initial.to ++ l.initial.from

abbrev pub decreases-entries : goal.decreases-entries
decreases-entries l = length l.from
