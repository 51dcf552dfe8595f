use Rattle.std.proofs.Common.{◌≡◌, ◌≤◌, length}
use Rattle.std.specs.VecDeque.{deque_capacity}
use Rattle.crossbeam_queue.specs.Passes.{view, ruled_capacity}
use Rattle.mailbox.specs.Rule.{more}
use Rattle.mailbox.specs.Passes.{IsTaker}
use Rattle.mailbox.proofs.closing.drain.Given as goal

abbrev pub invariant-loop-turn : goal.invariant-loop-turn
invariant-loop-turn g l =
    IsTaker l.queue l.taker × (view l.taker ≡ more (view l.initial.taker) l.room.items)
    × (length l.room.items ≡ l._turn) × (ruled_capacity l.queue ≤ deque_capacity l.room)
