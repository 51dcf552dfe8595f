use Rattle.std.proofs.Common.{ap}
use Rattle.context_meaning.specs.Contexts.{Context}
use Rattle.context_steps.proofs.Runs.{stands_on}
use Rattle.context_steps.proofs.ends.end_by_fault.Goals as goal

pub end_instance-requires-clause-stands : goal.end_instance-requires-clause-stands
end_instance-requires-clause-stands g c = stands_on c.args.around.now.program.now c.args.number c.args.monitor c.args.context.now c.fault_line.new.context (ap (λ (d : Context). d.instances) c.in_ok-fault_line.ensures) (ap (λ (d : Context). d.begun) c.in_ok-fault_line.ensures) c.requires.stands
