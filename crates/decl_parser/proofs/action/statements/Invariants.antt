use Rattle.std.proofs.Common.{◌≡◌, ◌-◌, [], length}
use Rattle.grammar_forms.specs.Reader.{many}
use Rattle.stmt_parser.specs.Reading.{stmt_at}
use Rattle.decl_parser.proofs.action.statements.Given as goal

abbrev pub invariant-items : goal.invariant-items
invariant-items l =
    let step = stmt_at l.tokens 200 in many step (l._turn-end - l._turn) l.at l.found ≡ many step (length l.tokens - l.from) l.from []
