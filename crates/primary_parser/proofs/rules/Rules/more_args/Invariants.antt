use Rattle.std.proofs.Common.{◌≡◌, ◌-◌, [], length}
use Rattle.grammar_forms.specs.Reader.{behind, many}
use Rattle.primary_parser.specs.declared.part.Part.TheVariants.{Whole}
use Rattle.primary_parser.specs.Tokens.{row_of}
use Rattle.primary_parser.specs.Words.{comma}
use Rattle.primary_parser.specs.Reading.{expr_at}
use Rattle.primary_parser.proofs.rules.Rules.more_args.Given as goal

abbrev pub invariant-items : goal.invariant-items
invariant-items g l =
    let step = behind (row_of l.self.tokens.now) comma (expr_at l.self.tokens.now l.self.depth Whole) in
    many step (l._turn-end - l._turn) l.at l.found ≡ many step (length l.self.tokens.now - l.from) l.from []
