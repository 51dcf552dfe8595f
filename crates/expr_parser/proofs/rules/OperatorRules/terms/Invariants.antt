use Rattle.std.proofs.Common.{◌≡◌, ◌-◌, [], length}
use Rattle.grammar_forms.specs.Reader.{many}
use Rattle.primary_parser.specs.Reading.{term, expr_at}
use Rattle.expr_parser.proofs.rules.OperatorRules.terms.Given as goal

abbrev pub invariant-items : goal.invariant-items
invariant-items g l =
    let step = term l.self.primaries.tokens.now (expr_at l.self.primaries.tokens.now l.self.primaries.depth) in
    many step (l._turn-end - l._turn) l.at l.found ≡ many step (length l.self.primaries.tokens.now - l.from) l.from []
