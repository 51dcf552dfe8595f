use Rattle.name_resolution.proofs.KindsRead.{program_resolves}
use Rattle.name_resolution.proofs.laws.accepted_programs_resolve.Goals as goal

pub returns : goal.returns
returns c = program_resolves
