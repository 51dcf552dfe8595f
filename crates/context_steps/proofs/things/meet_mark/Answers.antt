use Rattle.context_steps.proofs.Calling.{paid_fits}
use Rattle.context_steps.proofs.things.meet_mark.Goals as goal

pub one_turn-requires-clause-fits : goal.one_turn-requires-clause-fits
one_turn-requires-clause-fits g c = paid_fits c.args.around.now.program.now 5 c.args.context.now c.charge-enough.new.context c.charge-enough.ensures.after c.requires.fits
