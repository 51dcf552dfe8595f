use Rattle.context_steps.proofs.Calling.{paid_fits}
use Rattle.context_steps.proofs.things.meet_event.Goals as goal

pub event_turns-requires-clause-fits : goal.event_turns-requires-clause-fits
event_turns-requires-clause-fits g c = paid_fits c.args.around.now.program.now 5 c.args.context.now c.charge.new.context c.charge.ensures.after c.requires.fits
