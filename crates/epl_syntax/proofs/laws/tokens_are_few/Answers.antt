use Rattle.epl_lexer.proofs.Counts.{are_few}
use Rattle.epl_syntax.proofs.laws.tokens_are_few.Goals as goal

pub returns : goal.returns
returns c = are_few
