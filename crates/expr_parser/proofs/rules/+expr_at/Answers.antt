use Rattle.std.proofs.Common.{arith}
use Rattle.grammar_forms.proofs.Turns.{deeper}
use Rattle.primary_parser.specs.Reading.{expr_at}
use Rattle.expr_parser.proofs.rules.+expr_at.Goals as goal

pub returns : goal.returns
unfolding expr_at
returns t c = rw (deeper (λ n. expr_at c.args.tokens.now n c.args.part c.args.at) c.args.depth (omega arith)) c.part.ensures
