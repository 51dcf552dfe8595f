use Rattle.std.proofs.Common.{◌≡◌, Some, sym, ap, ◌∙◌}
use Rattle.grammar_forms.proofs.Longest.{reads_longest}
use Rattle.primary_parser.specs.declared.part.Part.TheVariants.{Whole}
use Rattle.primary_parser.specs.Reading.{expr_at}
use Rattle.expr_parser.proofs.Laws.{good_expr_alone}
use Rattle.epl_syntax.proofs.expressions.expression.Goals as goal

some_read : (c : goal.In-Ok-Some) → expr_at c.args.tokens.now 200 Whole c.args.at ≡ Some (c.in-Ok-Some.expr, c.in-Ok-Some.end)
some_read c =
    ap (λ ts. expr_at ts 200 Whole c.args.at) (sym c.as_slice.ensures)
    ∙ (sym c.in-Ok-Some.ensures ∙ c.in-Ok-Some.field-0-is)

pub returns-in-Ok-Some-clause-tree : goal.returns-in-Ok-Some-clause-tree
returns-in-Ok-Some-clause-tree c =
    (reads_longest (good_expr_alone c.args.tokens.now)).tree c.args.at _ (some_read c)

pub returns-in-Ok-Some-clause-longest : goal.returns-in-Ok-Some-clause-longest
returns-in-Ok-Some-clause-longest c =
    (reads_longest (good_expr_alone c.args.tokens.now)).longest c.args.at _ (some_read c)

pub returns-in-Ok-Some-clause-only : goal.returns-in-Ok-Some-clause-only
returns-in-Ok-Some-clause-only c =
    (reads_longest (good_expr_alone c.args.tokens.now)).only c.args.at _ (some_read c)

pub returns-in-Ok-None-clause-nowhere : goal.returns-in-Ok-None-clause-nowhere
returns-in-Ok-None-clause-nowhere c spot h =
    (reads_longest (good_expr_alone c.args.tokens.now)).nowhere c.args.at
    (ap (λ ts. expr_at ts 200 Whole c.args.at) (sym c.as_slice.ensures)
    ∙ (sym c.in-Ok-None.ensures ∙ c.in-Ok-None.field-0-is))
