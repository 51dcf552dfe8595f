use Rattle.std.proofs.Common.{ap}
use Rattle.context_meaning.specs.Contexts.{Context}
use Rattle.context_steps.proofs.Runs.{stands_on}
use Rattle.context_steps.proofs.ends.end_instance.Goals as goal

pub die-requires-clause-stands : goal.die-requires-clause-stands
die-requires-clause-stands g c = stands_on c.args.around.now.program.now c.args.number c.args.monitor c.args.context.now c.quit_all.new.self (ap (λ (d : Context). d.instances) c.quit_all.ensures) (ap (λ (d : Context). d.begun) c.quit_all.ensures) c.requires.stands
