use Rattle.std.proofs.lemmas.Result.{on_ok_weaker}
use Rattle.context_steps.proofs.Runs.{idle_some, stands_in}
use Rattle.context_steps.proofs.ends.end_where_idle.Goals as goal

pub end_if_idle-requires-clause-stands : goal.end_if_idle-requires-clause-stands
end_if_idle-requires-clause-stands g c = stands_in c.args.around.now.program.now c.args.number c.in-Some.monitor c.args.context.now c.requires.fits c.in-Some.ensures

pub returns-in-Some-clause-means : goal.returns-in-Some-clause-means
returns-in-Some-clause-means g c = on_ok_weaker c.end_if_idle.result (idle_some c.args.around.now.program.now c.args.number c.in-Some.monitor c.args.context.now c.end_if_idle.new.context c.in-Some.ensures) c.end_if_idle.ensures.means
