use Rattle.std.proofs.Common.{◌≡◌, ◌-◌, [], length}
use Rattle.grammar_forms.specs.Reader.{behind, many}
use Rattle.primary_parser.specs.Tokens.{row_of}
use Rattle.primary_parser.specs.Words.{comma}
use Rattle.decl_parser.specs.Declaring.{param}
use Rattle.decl_parser.proofs.action.more_params.Given as goal

abbrev pub invariant-items : goal.invariant-items
invariant-items l =
    let step = behind (row_of l.tokens) comma (param l.tokens) in many step (l._turn-end - l._turn) l.at l.found ≡ many step (length l.tokens - l.from) l.from []
