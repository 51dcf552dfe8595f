use Rattle.source_actor.proofs.Sends.{TimedBelow}
use Rattle.source_actor.proofs.reader.send_time.Given as goal

abbrev pub invariant-slots : goal.invariant-slots
invariant-slots l = TimedBelow l.contexts l.number l.time l.slot l.fn.outboxes.items l.outboxes.items
