use Rattle.std.proofs.Common.{List, sym, subst}
use Rattle.epl_values.specs.declared.value.Value.{Value}
use Rattle.context_steps.specs.Steps.{CanRunIn}
use Rattle.context_steps.proofs.ends.run_ondie.Goals as goal

pub run_in-requires-clause-runs : goal.run_in-requires-clause-runs
run_in-requires-clause-runs g c = subst (λ (ls : List Value). CanRunIn c.args.around.now.program.now c.args.number c.args.body ls c.args.context.now) (sym c.new-locals.ensures) c.requires.runs
