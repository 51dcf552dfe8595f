use Rattle.std.proofs.Common.{◌≡◌, ◌-◌, [], length}
use Rattle.grammar_forms.specs.Reader.{many}
use Rattle.primary_parser.specs.Reading.{factor, expr_at}
use Rattle.expr_parser.proofs.rules.OperatorRules.factors.Given as goal

abbrev pub invariant-items : goal.invariant-items
invariant-items g l =
    let step = factor l.self.primaries.tokens.now (expr_at l.self.primaries.tokens.now l.self.primaries.depth) in
    many step (l._turn-end - l._turn) l.at l.found ≡ many step (length l.self.primaries.tokens.now - l.from) l.from []
