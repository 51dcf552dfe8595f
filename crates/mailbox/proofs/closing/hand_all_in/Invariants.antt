use Rattle.crossbeam_queue.specs.Passes.{view}
use Rattle.mailbox.specs.Passes.{IsTaker}
use Rattle.mailbox.proofs.PassLists.{IsIn}
use Rattle.mailbox.proofs.closing.hand_all_in.Given as goal

abbrev pub invariant-loop-turn : goal.invariant-loop-turn
invariant-loop-turn g l = IsTaker l.queue l.taker × IsIn l._turn l.fn.passes (view l.initial.taker) l.passes (view l.taker)
