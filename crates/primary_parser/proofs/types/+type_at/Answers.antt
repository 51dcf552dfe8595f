use Rattle.std.proofs.Common.{arith}
use Rattle.grammar_forms.proofs.Turns.{deeper}
use Rattle.primary_parser.specs.Reading.{type_at}
use Rattle.primary_parser.proofs.types.+type_at.Goals as goal

pub returns : goal.returns
unfolding type_at
returns t c = rw (deeper (λ n. type_at c.args.tokens.now n c.args.at) c.args.depth (omega arith)) c.type_over.ensures
