use Rattle.std.proofs.Common.{◌≡◌, ◌-◌, [], length}
use Rattle.grammar_forms.specs.Reader.{many}
use Rattle.command_parser.specs.Reading.{step_at}
use Rattle.command_parser.proofs.places.steps.Given as goal

abbrev pub invariant-items : goal.invariant-items
invariant-items l =
    many (step_at l.tokens) (l._turn-end - l._turn) l.at l.found ≡ many (step_at l.tokens) (length l.tokens - l.from) l.from []
