use Rattle.source_actor.proofs.Sends.{LoadedBelow}
use Rattle.source_actor.proofs.reader.loads.Given as goal

abbrev pub invariant-monitors : goal.invariant-monitors
invariant-monitors l = LoadedBelow l.contexts l.monitor l.outboxes.items
