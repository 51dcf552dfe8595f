use Rattle.std.proofs.Common.{◌≡◌, [], length}
use Rattle.crossbeam_queue.specs.Passes.{view}
use Rattle.mailbox.specs.Passes.{IsTaker, Fresh}
use Rattle.mailbox.proofs.creating.open_passes.Given as goal

abbrev pub invariant-loop-sender : goal.invariant-loop-sender
invariant-loop-sender g l =
    IsTaker l.queue l.taker.pass × ((view l.taker.pass).opened ≡ l._sender) × ((view l.taker.pass).entries ≡ []) × ((view l.taker.pass).handed ≡ [])
    × (length l.passes ≡ l._sender) × Fresh l.queue l.passes
