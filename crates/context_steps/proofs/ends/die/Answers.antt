use Rattle.std.proofs.Common.{sym, ◌∙◌}
use Rattle.context_steps.proofs.Runs.{dies_in}
use Rattle.context_steps.proofs.ends.die.Goals as goal

pub run_ondie-requires-clause-runs : goal.run_ondie-requires-clause-runs
run_ondie-requires-clause-runs g c = dies_in c.args.around.now.program.now c.args.number c.args.monitor c.in-Some.body c.args.context.now c.requires.keeps c.requires.stands (sym c.in-Some.is ∙ c.ondie_of.ensures)
