use Rattle.std.proofs.Common.{◌≡◌, ◌-◌, [], length}
use Rattle.grammar_forms.specs.Reader.{behind, many}
use Rattle.primary_parser.specs.Tokens.{row_of}
use Rattle.primary_parser.specs.Words.{xor_word}
use Rattle.primary_parser.specs.Reading.{conjunction, expr_at}
use Rattle.expr_parser.proofs.rules.OperatorRules.more_xor.Given as goal

abbrev pub invariant-items : goal.invariant-items
invariant-items g l =
    let step = behind (row_of l.self.primaries.tokens.now) xor_word (conjunction l.self.primaries.tokens.now (expr_at l.self.primaries.tokens.now l.self.primaries.depth)) in
    many step (l._turn-end - l._turn) l.at l.found ≡ many step (length l.self.primaries.tokens.now - l.from) l.from []
