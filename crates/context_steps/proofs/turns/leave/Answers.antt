use Rattle.context_steps.proofs.Stepping.{quit_fits}
use Rattle.context_steps.proofs.turns.leave.Goals as goal

pub end_where_idle-requires-clause-fits : goal.end_where_idle-requires-clause-fits
end_where_idle-requires-clause-fits g c = quit_fits c.args.around.now.program.now c.args.birth c.args.context.now c.quit.new.self c.requires.fits c.quit.ensures
