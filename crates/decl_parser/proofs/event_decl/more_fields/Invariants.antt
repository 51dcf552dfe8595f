use Rattle.std.proofs.Common.{◌≡◌, ◌-◌, [], length}
use Rattle.grammar_forms.specs.Reader.{many}
use Rattle.decl_parser.specs.Declaring.{field}
use Rattle.decl_parser.proofs.event_decl.more_fields.Given as goal

abbrev pub invariant-items : goal.invariant-items
invariant-items l =
    let step = field l.tokens in many step (l._turn-end - l._turn) l.at l.found ≡ many step (length l.tokens - l.from) l.from []
