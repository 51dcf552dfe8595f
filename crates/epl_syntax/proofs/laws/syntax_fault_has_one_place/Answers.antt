use Rattle.epl_syntax.proofs.Faults.{one_syntax_fault}
use Rattle.epl_syntax.proofs.laws.syntax_fault_has_one_place.Goals as goal

pub returns : goal.returns
returns c = one_syntax_fault
