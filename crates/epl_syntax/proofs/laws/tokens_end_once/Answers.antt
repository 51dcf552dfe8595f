use Rattle.epl_lexer.proofs.Counts.{end_once}
use Rattle.epl_syntax.proofs.laws.tokens_end_once.Goals as goal

pub returns : goal.returns
returns c = end_once
