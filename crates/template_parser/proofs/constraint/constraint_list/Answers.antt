use Rattle.std.proofs.Common.{rules, ◌≡◌, ◌∙◌, sym, length}
use Rattle.grammar_forms.specs.Reader.{behind, separated}
use Rattle.primary_parser.specs.Tokens.{row_of}
use Rattle.primary_parser.specs.Words.{comma}
use Rattle.template_parser.specs.Reading.{constraint_at, constraint_list}
use Rattle.template_parser.proofs.Continued.{listed_from}
use Rattle.template_parser.proofs.constraint.constraint_list.Goals as goal

pub returns : goal.returns
unfolding constraint_list separated
returns c =
    listed_from (behind (row_of c.args.tokens.now) comma (constraint_at c.args.tokens.now)) (length c.args.tokens.now) (constraint_at c.args.tokens.now c.args.at)
    c.in-Some.first c.in_ok-all.all c.in-Some.at c.in_ok-all.end (search rules) (search rules)
