use Rattle.std.proofs.Common.{◌≡◌, ◌-◌, length}
use Rattle.grammar_forms.specs.Reader.{behind, many}
use Rattle.primary_parser.specs.Tokens.{row_of}
use Rattle.primary_parser.specs.Words.{comma}
use Rattle.template_parser.specs.Reading.{constraint_at}
use Rattle.template_parser.proofs.constraint.more_constraints.Given as goal

abbrev pub invariant-items : goal.invariant-items
invariant-items l =
    let step = behind (row_of l.tokens) comma (constraint_at l.tokens) in
    many step (l._turn-end - l._turn) l.at l.found ≡ many step (length l.tokens - l.from) l.from l.fn.first
