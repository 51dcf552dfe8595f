use Rattle.evt_reader.proofs.Names.{event-shape}
use Rattle.evt_reader.proofs.events.event_at.Goals as goal

pub value_at-found-requires-clause-shape : goal.value_at-found-requires-clause-shape
value_at-found-requires-clause-shape c = event-shape c.args.types.now c.args.number c.requires.number
