-- Templates of events and what stands in them read from left to right, each repetition as far as it goes.
use Rattle.std.specs.Prelude.{ℕ, Bool, true, false, List, Option}
use Rattle.grammar_forms.specs.Reader.{Reader, made, and_then, or_else, and_optional, item_of, behind, within, separated}
use Rattle.epl_lexer.specs.declared.token.Token.{Token}
use Rattle.epl_tree.specs.declared.name.Name.{Name}
use Rattle.epl_tree.specs.declared.expression.Expr.{Expr}
use Rattle.epl_tree.specs.declared.expression.Comparison.{Comparison}
use Rattle.epl_tree.specs.declared.expression.Comparison.TheVariants as comparison
use Rattle.epl_tree.specs.declared.event.Constraint.{Constraint}
use Rattle.epl_tree.specs.declared.event.ConstraintNode.{ConstraintNode}
use Rattle.epl_tree.specs.declared.event.ConstraintNode.TheVariants as c
use Rattle.epl_tree.specs.declared.event.Range.{Range}
use Rattle.epl_tree.specs.declared.event.RangeEnd.{RangeEnd}
use Rattle.epl_tree.specs.declared.event.Duration.{Duration}
use Rattle.epl_tree.specs.declared.event.DurationNode.{DurationNode}
use Rattle.epl_tree.specs.declared.event.DurationNode.TheVariants as d
use Rattle.epl_tree.specs.declared.event.Mode.TheVariants as mode
use Rattle.epl_tree.specs.declared.event.Template.{Template}
use Rattle.epl_tree.specs.declared.event.TemplateClause.{TemplateClause}
use Rattle.epl_tree.specs.declared.event.TemplateClause.TheVariants as clause
use Rattle.primary_parser.specs.declared.part.Part.TheVariants as expression
use Rattle.primary_parser.specs.Tokens.{row_of}
use Rattle.primary_parser.specs.Words.{parenthesis, closing_parenthesis, bracket, closing_bracket, comma, colon, equals, less, at_most, greater, at_least, times}
use Rattle.primary_parser.specs.Reader.{placed, enclosed, decimal, name}
use Rattle.primary_parser.specs.Reading.{expr_at}
use Rattle.template_parser.specs.Words.{as_word, completed_word, in_word, unmatched_word, within_word}
use Rattle.template_parser.specs.Rules.{unless}
use Rattle.template_parser.specs.Constraints.{constraint, low_of, high_of, range_of}
use Rattle.template_parser.specs.Templates.{declared, duration, clauses_of, template_of}

module _ (tokens : List Token) where
  -- ---- constraints

  -- A sum that stands alone.
  unfoldable pub sum_at : Reader Expr
  sum_at at = expr_at tokens 200 expression.Sum at

  unfoldable pub order : Reader Comparison
  order at =
      or_else (made (λ _. comparison.Less) (item_of (row_of tokens) less at))
      (or_else (made (λ _. comparison.LessEqual) (item_of (row_of tokens) at_most at))
      (or_else (made (λ _. comparison.Greater) (item_of (row_of tokens) greater at))
      (made (λ _. comparison.GreaterEqual) (item_of (row_of tokens) at_least at))))

  unfoldable pub any_test : Reader Comparison
  any_test at = or_else (made (λ _. comparison.Equal) (item_of (row_of tokens) equals at)) (order at)

  unfoldable pub opening : Reader Bool
  opening at =
      or_else (made (λ _. true) (item_of (row_of tokens) bracket at))
      (made (λ _. false) (item_of (row_of tokens) parenthesis at))

  unfoldable pub closing : Reader Bool
  closing at =
      or_else (made (λ _. true) (item_of (row_of tokens) closing_bracket at))
      (made (λ _. false) (item_of (row_of tokens) closing_parenthesis at))

  unfoldable pub low : Reader RangeEnd
  low at = made low_of (and_then (opening at) sum_at)

  unfoldable pub high : Reader RangeEnd
  high at = made high_of (and_then (sum_at at) closing)

  unfoldable pub range : Reader Range
  range at = made range_of (and_then (low at) (behind (row_of tokens) colon high))

  unfoldable pub ordered : Reader ConstraintNode
  ordered at = made (λ x. c.Compares x.0 x.1) (and_then (order at) sum_at)

  unfoldable pub tested : Reader (Comparison × Expr)
  tested at = and_then (any_test at) sum_at

  unfoldable pub named_test : Reader ConstraintNode
  named_test at = made (λ x. c.NamedCompares x.0 x.1.0 x.1.1) (and_then (name tokens at) tested)

  unfoldable pub named_range : Reader ConstraintNode
  named_range at = made (λ x. c.NamedLies x.0 x.1) (and_then (name tokens at) (behind (row_of tokens) in_word range))

  unfoldable pub range_or_named : Reader ConstraintNode
  range_or_named at = or_else (made c.Lies (range at)) (or_else (named_test at) (named_range at))

  unfoldable pub sum_and_colon : Reader (Expr × Unit {0})
  sum_and_colon at = and_then (sum_at at) (item_of (row_of tokens) colon)

  unfoldable pub range_head : Reader (Unit {0})
  range_head at = made (λ _. tt) (behind (row_of tokens) parenthesis sum_and_colon at)

  unfoldable pub mark : Reader (Unit {0})
  mark at = or_else (made (λ _. tt) (any_test at)) (item_of (row_of tokens) in_word at)

  unfoldable pub named_head : Reader (Unit {0})
  named_head at = made (λ _. tt) (and_then (name tokens at) mark)

  unfoldable pub head : Reader (Unit {0})
  head at = or_else (item_of (row_of tokens) bracket at) (or_else (range_head at) (named_head at))

  unfoldable pub plain : Reader ConstraintNode
  plain at = made c.Equals (unless (head at) (sum_at at))

  unfoldable pub constraint_node : Reader ConstraintNode
  constraint_node at =
      or_else (made (λ _. c.Any) (item_of (row_of tokens) times at))
      (or_else (ordered at) (or_else (range_or_named at) (plain at)))

  unfoldable pub constraint_at : Reader Constraint
  constraint_at at = placed tokens constraint at (constraint_node at)

  unfoldable pub constraint_list : Reader (List Constraint)
  constraint_list at = separated (row_of tokens) comma constraint_at at

  -- ---- durations and templates

  unfoldable pub duration_node : Reader DurationNode
  duration_node at = or_else (made d.Decimal (decimal tokens at)) (made d.Seconds (sum_at at))

  unfoldable pub duration_at : Reader Duration
  duration_at at = placed tokens duration at (duration_node at)

  unfoldable pub span : Reader Duration
  span at = within (row_of tokens) parenthesis closing_parenthesis duration_at at

  unfoldable pub declared_name : Reader Name
  declared_name at = placed tokens declared at (name tokens at)

  unfoldable pub as_clause : Reader TemplateClause
  as_clause at = made clause.As (behind (row_of tokens) as_word declared_name at)

  unfoldable pub within_clause : Reader TemplateClause
  within_clause at = made clause.Within (behind (row_of tokens) within_word span at)

  unfoldable pub as_first : Reader (List TemplateClause)
  as_first at = made clauses_of (and_optional (as_clause at) within_clause)

  unfoldable pub within_first : Reader (List TemplateClause)
  within_first at = made clauses_of (and_optional (within_clause at) as_clause)

  unfoldable pub clauses : Reader (List TemplateClause)
  clauses at = or_else (as_first at) (within_first at)

  unfoldable pub constraints : Reader (List Constraint)
  constraints at = enclosed (row_of tokens) parenthesis closing_parenthesis constraint_list at

  unfoldable pub name_and_constraints : Reader (List ℕ × List Constraint)
  name_and_constraints at = and_then (name tokens at) constraints

  unfoldable pub pattern_at : Reader ((List ℕ × List Constraint) × Option (List TemplateClause))
  pattern_at at = and_optional (name_and_constraints at) clauses

  unfoldable pub template_at : Reader Template
  template_at at =
      or_else (made (template_of mode.Unmatched) (behind (row_of tokens) unmatched_word pattern_at at))
      (or_else (made (template_of mode.Completed) (behind (row_of tokens) completed_word pattern_at at))
      (made (template_of mode.Ordinary) (pattern_at at)))
