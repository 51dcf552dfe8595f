use Rattle.std.proofs.Common.{◌≡◌, ◌-◌, [], length}
use Rattle.grammar_forms.specs.Reader.{many}
use Rattle.stmt_parser.specs.Reading.{stmt_at}
use Rattle.stmt_parser.proofs.rules.Rules.statements.Given as goal

abbrev pub invariant-items : goal.invariant-items
invariant-items g l =
    let step = stmt_at l.self.tokens.now l.self.depth in
    many step (l._turn-end - l._turn) l.at l.found ≡ many step (length l.self.tokens.now - l.from) l.from []
