use Rattle.std.proofs.Common.{◌≡◌, ◌-◌, [], length}
use Rattle.grammar_forms.specs.Reader.{many}
use Rattle.decl_parser.specs.Declaring.{member_at}
use Rattle.decl_parser.proofs.monitor.more_members.Given as goal

abbrev pub invariant-items : goal.invariant-items
invariant-items l =
    let step = member_at l.tokens in many step (l._turn-end - l._turn) l.at l.found ≡ many step (length l.tokens - l.from) l.from []
