use Rattle.std.proofs.Common.{arith}
use Rattle.grammar_forms.proofs.Turns.{deeper}
use Rattle.stmt_parser.specs.Reading.{stmt_at}
use Rattle.stmt_parser.proofs.rules.+stmt_at.Goals as goal

pub returns : goal.returns
unfolding stmt_at
returns t c = rw (deeper (λ n. stmt_at c.args.tokens.now n c.args.at) c.args.depth (omega arith)) c.stmt_over.ensures
