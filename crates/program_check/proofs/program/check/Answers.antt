use Rattle.program_check.proofs.Checked.{accepted_typed}
use Rattle.program_check.proofs.program.check.Goals as goal

pub returns-clause-typed : goal.returns-clause-typed
returns-clause-typed c = accepted_typed c.accepted_programs_are_typed.ensures c.args.units.now _ c.check.ensures
