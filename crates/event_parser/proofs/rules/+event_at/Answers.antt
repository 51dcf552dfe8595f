use Rattle.std.proofs.Common.{arith}
use Rattle.grammar_forms.proofs.Turns.{deeper}
use Rattle.event_parser.specs.Reading.{event_at}
use Rattle.event_parser.proofs.rules.+event_at.Goals as goal

pub returns : goal.returns
unfolding event_at
returns t c = rw (deeper (λ n. event_at c.args.tokens.now n c.args.part c.args.at) c.args.depth (omega arith)) c.part.ensures
