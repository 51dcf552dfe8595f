use Rattle.program_laws.proofs.Checked.{program_is_typed}
use Rattle.program_laws.proofs.laws.accepted_programs_are_typed.Goals as goal

pub returns : goal.returns
returns c = program_is_typed
