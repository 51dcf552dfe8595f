use Rattle.world_serial.proofs.EndLemmas.{senders-more}
use Rattle.world_serial.proofs.finish.by_sender.Goals as goal

pub senders-preserved : goal.senders-preserved
senders-preserved c =
    let more = senders-more c.senders.sender c.args.queue c.senders.waiting c.in_ok-waiting.waiting c.senders.left c.take_sender.new.left c.senders.invariant.taken c.senders.invariant.waits c.in_ok-waiting.ensures.moved
    c.in_ok-waiting.ensures.others in
    record { taken = more.0; waits = more.1 }
