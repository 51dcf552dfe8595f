use Rattle.context_steps.specs.Calls.{listener_in}
use Rattle.context_steps.proofs.Calling.{can_run}
use Rattle.context_steps.proofs.callbacks.call.Goals as goal

pub run-requires-clause-runs : goal.run-requires-clause-runs
run-requires-clause-runs g c = can_run c.args.around.now.program.now (listener_in c.args.called.now) c.args.site.now c.args.completion.now c.in_ok-body.body c.in_ok-locals.locals c.args.context.now c.requires.keeps c.requires.fits c.requires.caller c.requires.bound c.in_ok-body.ensures c.in_ok-locals.ensures
