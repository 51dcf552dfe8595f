use Rattle.std.proofs.Common.{◌≡◌, ◌-◌, [], length}
use Rattle.grammar_forms.specs.Reader.{behind, many}
use Rattle.primary_parser.specs.Tokens.{row_of}
use Rattle.template_parser.specs.Words.{arrow}
use Rattle.event_parser.specs.Reading.{disjunction, event_at}
use Rattle.event_parser.proofs.rules.EventRules.more_followed.Given as goal

abbrev pub invariant-items : goal.invariant-items
invariant-items g l =
    let step = behind (row_of l.self.tokens.now) arrow (disjunction l.self.tokens.now (event_at l.self.tokens.now l.self.depth)) in
    many step (l._turn-end - l._turn) l.at l.found ≡ many step (length l.self.tokens.now - l.from) l.from []
