use Rattle.epl_lexer.proofs.Lexed.{one_fault}
use Rattle.epl_syntax.proofs.laws.fault_has_one_place.Goals as goal

pub returns : goal.returns
returns c = one_fault
