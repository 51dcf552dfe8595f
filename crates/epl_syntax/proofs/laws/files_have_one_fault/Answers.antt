use Rattle.epl_syntax.proofs.Faults.{one_lex, one_syntax, lex_apart}
use Rattle.epl_syntax.proofs.laws.files_have_one_fault.Goals as goal

pub returns-clause-unread : goal.returns-clause-unread
returns-clause-unread c = one_lex

pub returns-clause-unparsed : goal.returns-clause-unparsed
returns-clause-unparsed c = one_syntax

pub returns-clause-apart : goal.returns-clause-apart
returns-clause-apart c = lex_apart
