use Rattle.context_steps.proofs.Calling.{paid_fits}
use Rattle.context_steps.proofs.handling.load.Goals as goal

pub begin_monitor-requires-clause-fits : goal.begin_monitor-requires-clause-fits
begin_monitor-requires-clause-fits g c = paid_fits c.args.around.now.program.now 5 c.args.context.now c.charge.new.context c.charge.ensures.after c.requires.fits
