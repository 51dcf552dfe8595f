use Rattle.epl_lexer.proofs.Spaces.{no_more_closes}
use Rattle.epl_lexer.proofs.space.close_of.Goals as goal

pub returns-clause-first : goal.returns-clause-first
returns-clause-first c = no_more_closes _ _ _ c.bytes-test.false c.bytes.invariant.1
