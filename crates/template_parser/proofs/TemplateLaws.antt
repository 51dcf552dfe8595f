-- Durations and templates are read just as the grammar says.
use Rattle.std.proofs.Common.{ℕ, List, [], ◌++◌, refl}
use Rattle.grammar_forms.specs.Good.{Good}
use Rattle.grammar_forms.proofs.Good.{good_made, good_then, good_either, good_in}
use Rattle.grammar_forms.proofs.Optional.{good_and_optional}
use Rattle.grammar_forms.proofs.Joined.{good_behind, good_within}
use Rattle.epl_lexer.specs.declared.token.Token.{Token}
use Rattle.epl_tree.specs.declared.event.DurationNode.TheVariants as d
use Rattle.epl_tree.specs.declared.event.Mode.TheVariants as mode
use Rattle.epl_tree.specs.declared.event.TemplateClause.TheVariants as clause
use Rattle.primary_parser.specs.Tokens.{row_of, names, decimals}
use Rattle.primary_parser.specs.Words.{parenthesis, closing_parenthesis}
use Rattle.expr_parser.proofs.Items.{inside, good_name, good_decimal, good_placed, good_enclosed}
use Rattle.expr_parser.proofs.Laws.{sum_starts, sum_ext}
use Rattle.template_parser.specs.Words.{as_word, completed_word, unmatched_word, within_word}
use Rattle.template_parser.specs.Templates.{declared, duration, clauses_of, template_of, IsDuration, IsSpan, IsAs, IsWithin, IsClauses, IsConstraints, IsPattern, IsTemplate}
use Rattle.template_parser.specs.Reading.{duration_node, duration_at, span, declared_name, as_clause, within_clause, as_first, within_first, clauses, constraints, name_and_constraints, pattern_at, template_at}
use Rattle.template_parser.proofs.ConstraintLaws.{good_sum, good_constraint_list}

-- what begins a clause
abbrev pub clause_words : List ℕ
clause_words = as_word ++ within_word

-- what may begin a template
abbrev pub template_starts : List ℕ
template_starts = unmatched_word ++ (completed_word ++ names)

module _ (tokens : List Token) where
  good_duration : Good (row_of tokens) (IsDuration tokens) (duration_at tokens) (decimals ++ sum_starts) sum_ext
  unfolding duration_at duration_node
  good_duration =
      good_placed tokens duration
      (good_either (good_made d.Decimal (good_decimal tokens)) (good_made d.Seconds (good_sum tokens)) refl)

  pub good_span : Good (row_of tokens) (IsSpan tokens) (span tokens) parenthesis []
  unfolding span
  good_span =
      good_within good_duration parenthesis closing_parenthesis (inside tokens parenthesis refl)
      (inside tokens closing_parenthesis refl) refl refl

  good_as : Good (row_of tokens) (IsAs tokens) (as_clause tokens) as_word []
  unfolding as_clause declared_name
  good_as =
      good_made clause.As (good_behind (good_placed tokens declared (good_name tokens)) as_word (inside tokens as_word refl) refl)

  good_within_clause : Good (row_of tokens) (IsWithin tokens) (within_clause tokens) within_word []
  unfolding within_clause
  good_within_clause = good_made clause.Within (good_behind good_span within_word (inside tokens within_word refl) refl)

  good_clauses : Good (row_of tokens) (IsClauses tokens) (clauses tokens) clause_words clause_words
  unfolding clauses as_first within_first
  good_clauses =
      good_in clause_words clause_words
      (good_either (good_made clauses_of (good_and_optional good_as good_within_clause refl))
      (good_made clauses_of (good_and_optional good_within_clause good_as refl)) refl)
      refl refl

  good_constraints : Good (row_of tokens) (IsConstraints tokens) (constraints tokens) parenthesis []
  unfolding constraints
  good_constraints = good_enclosed tokens parenthesis closing_parenthesis refl refl (good_constraint_list tokens) refl refl

  good_pattern : Good (row_of tokens) (IsPattern tokens) (pattern_at tokens) names clause_words
  unfolding pattern_at name_and_constraints
  good_pattern =
      good_in names clause_words
      (good_and_optional (good_then (good_name tokens) good_constraints refl) good_clauses refl) refl refl

  pub good_template : Good (row_of tokens) (IsTemplate tokens) (template_at tokens) template_starts clause_words
  unfolding template_at
  good_template =
      good_in template_starts clause_words
      (good_either
      (good_made (template_of mode.Unmatched) (good_behind good_pattern unmatched_word (inside tokens unmatched_word refl) refl))
      (good_either
      (good_made (template_of mode.Completed) (good_behind good_pattern completed_word (inside tokens completed_word refl) refl))
      (good_made (template_of mode.Ordinary) good_pattern) refl) refl)
      refl refl
