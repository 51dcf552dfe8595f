-- Each rule of expressions is read just as the grammar says.
use Rattle.std.proofs.Common.{ℕ, zero, suc, true, false, List, [], ◌++◌, refl}
use Rattle.grammar_forms.specs.Rule.{Separated}
use Rattle.grammar_forms.specs.Reader.{Reader}
use Rattle.grammar_forms.specs.Good.{Good}
use Rattle.grammar_forms.proofs.Good.{good_none, good_made, good_then, good_either, good_in}
use Rattle.grammar_forms.proofs.Many.{good_and_many}
use Rattle.grammar_forms.proofs.Optional.{good_and_optional}
use Rattle.grammar_forms.proofs.Where.{good_such}
use Rattle.grammar_forms.proofs.Joined.{good_behind, good_within, good_separated}
use Rattle.epl_lexer.specs.declared.token.Token.{Token}
use Rattle.epl_tree.specs.declared.expression.Expr.{Expr}
use Rattle.epl_tree.specs.declared.expression.ExprNode.TheVariants as n
use Rattle.epl_tree.specs.declared.expression.SuffixNode.TheVariants as s
use Rattle.epl_tree.specs.declared.expression.Operator.TheVariants as operator
use Rattle.epl_tree.specs.declared.expression.Comparison.TheVariants as comparison
use Rattle.primary_parser.specs.declared.part.Part.{Part}
use Rattle.primary_parser.specs.declared.part.Part.TheVariants as part
use Rattle.primary_parser.specs.Tokens.{row_of, names, integers, strings}
use Rattle.primary_parser.specs.Words.{brace, closing_brace, parenthesis, closing_parenthesis, bracket, closing_bracket, comma, point, colon, equals, differs, less, at_most, greater, at_least, plus, minus, times, divided, remainder, context_word, and_word, false_word, new_word, not_word, or_word, true_word, xor_word}
use Rattle.primary_parser.specs.Grammar as tree
use Rattle.primary_parser.specs.Grammar.{IsComparison, IsAdditive, IsMultiplicative, IsLiteral, IsCurrent, IsArgs, IsArguments, IsNamed, IsEntry, IsCollection, IsContext, IsPrimary, IsSuffix, IsPostfix, IsUnary, IsProduct, IsSum, IsCompared, IsNegation, IsConjunction, IsExclusive, IsWhole, IsPart, IsExprAt, IsExpr, IsSumAlone, IsPostfixAlone}
use Rattle.primary_parser.specs.Reading.{compared_by, additive, multiplicative, literal, new_default, current_word, empty_parentheses, current_call, current, args, arguments, named, entry_at, entries, collection, context_tail, context, group, bracketed_node, primary_node, primary, member, field_or_method, suffix_node, suffix_at, postfix, signed, unary, factor, product, term, sum, right_side, compared, negated, negation, conjunction, exclusive, whole, part_of, expr_at}
use Rattle.expr_parser.proofs.Items.{inside, good_integer, good_quoted, good_name, good_word, good_placed, good_joined, good_enclosed}
use Rattle.expr_parser.proofs.TypeLaws.{good_type_alone}

-- what may begin a primary, a sum and an expression
abbrev pub primary_starts : List ℕ
primary_starts = integers ++ (strings ++ (true_word ++ (false_word ++ (names ++ (bracket ++ (brace ++ (new_word ++ (context_word ++ parenthesis))))))))

abbrev pub sum_starts : List ℕ
sum_starts = minus ++ primary_starts

abbrev pub starts : List ℕ
starts = not_word ++ sum_starts

-- what compares
abbrev pub comparisons : List ℕ
comparisons = equals ++ (differs ++ (less ++ (at_most ++ (greater ++ at_least))))

-- what may extend each
abbrev pub postfix_ext : List ℕ
postfix_ext = parenthesis ++ (point ++ bracket)

abbrev pub product_ext : List ℕ
product_ext = postfix_ext ++ (times ++ (divided ++ remainder))

abbrev pub sum_ext : List ℕ
sum_ext = product_ext ++ (plus ++ minus)

abbrev pub compared_ext : List ℕ
compared_ext = sum_ext ++ comparisons

abbrev pub conjunction_ext : List ℕ
conjunction_ext = compared_ext ++ and_word

abbrev pub exclusive_ext : List ℕ
exclusive_ext = conjunction_ext ++ xor_word

abbrev pub whole_ext : List ℕ
whole_ext = exclusive_ext ++ or_word

abbrev pub starts_of : Part → List ℕ
starts_of part.Whole = starts
starts_of part.Negated = starts
starts_of part.Sum = sum_starts
starts_of part.Signed = sum_starts
starts_of part.Postfix = primary_starts

abbrev pub ext_of : Part → List ℕ
ext_of part.Whole = whole_ext
ext_of part.Negated = compared_ext
ext_of part.Sum = sum_ext
ext_of part.Signed = postfix_ext
ext_of part.Postfix = postfix_ext

module _ (tokens : List Token) where
  pub good_comparison : Good (row_of tokens) (IsComparison tokens) (compared_by tokens) comparisons []
  unfolding compared_by
  good_comparison =
      good_either (good_made (λ _. comparison.Equal) (good_word tokens equals refl))
      (good_either (good_made (λ _. comparison.NotEqual) (good_word tokens differs refl))
      (good_either (good_made (λ _. comparison.Less) (good_word tokens less refl))
      (good_either (good_made (λ _. comparison.LessEqual) (good_word tokens at_most refl))
      (good_either (good_made (λ _. comparison.Greater) (good_word tokens greater refl))
      (good_made (λ _. comparison.GreaterEqual) (good_word tokens at_least refl)) refl) refl) refl) refl) refl

  pub good_additive : Good (row_of tokens) (IsAdditive tokens) (additive tokens) (plus ++ minus) []
  unfolding additive
  good_additive =
      good_either (good_made (λ _. operator.Add) (good_word tokens plus refl)) (good_made (λ _. operator.Subtract) (good_word tokens minus refl)) refl

  good_multiplicative : Good (row_of tokens) (IsMultiplicative tokens) (multiplicative tokens) (times ++ (divided ++ remainder)) []
  unfolding multiplicative
  good_multiplicative =
      good_either (good_made (λ _. operator.Multiply) (good_word tokens times refl))
      (good_either (good_made (λ _. operator.Divide) (good_word tokens divided refl))
      (good_made (λ _. operator.Remainder) (good_word tokens remainder refl)) refl) refl

  good_literal : Good (row_of tokens) (IsLiteral tokens) (literal tokens) (integers ++ (strings ++ (true_word ++ false_word))) []
  unfolding literal
  good_literal =
      good_either (good_made n.Integer (good_integer tokens))
      (good_either (good_made n.Quoted (good_quoted tokens))
      (good_either (good_made (λ _. n.Boolean true) (good_word tokens true_word refl))
      (good_made (λ _. n.Boolean false) (good_word tokens false_word refl)) refl) refl) refl

  good_current : Good (row_of tokens) (IsCurrent tokens) (current tokens) point []
  unfolding current current_call current_word empty_parentheses
  good_current =
      good_made (λ _. n.ContextCurrent)
      (good_behind
      (good_then (good_such tree.is_current (good_name tokens))
      (good_then (good_word tokens parenthesis refl) (good_word tokens closing_parenthesis refl) refl) refl)
      point (inside tokens point refl) refl)

  module _ {Deeper : Part → Expr → ℕ → ℕ → Type 0} {deeper : Part → Reader Expr} (inner : (p : Part) → Good (row_of tokens) (Deeper p) (deeper p) (starts_of p) (ext_of p)) where
    good_args : Good (row_of tokens) (IsArgs tokens Deeper) (args tokens deeper) starts (whole_ext ++ comma)
    unfolding args
    good_args =
        good_in starts (whole_ext ++ comma) (good_separated (inner part.Whole) comma (inside tokens comma refl) refl refl) refl refl

    pub good_arguments : Good (row_of tokens) (IsArguments tokens Deeper) (arguments tokens deeper) parenthesis []
    unfolding arguments
    good_arguments = good_enclosed tokens parenthesis closing_parenthesis refl refl good_args refl refl

    good_named : Good (row_of tokens) (IsNamed tokens Deeper) (named tokens deeper) names parenthesis
    unfolding named
    good_named = good_made tree.named_of (good_and_optional (good_name tokens) good_arguments refl)

    good_entry : Good (row_of tokens) (IsEntry tokens Deeper) (entry_at tokens deeper) starts whole_ext
    unfolding entry_at
    good_entry =
        good_made tree.entry
        (good_then (inner part.Whole) (good_behind (inner part.Whole) colon (inside tokens colon refl) refl) refl)

    good_entries : Good (row_of tokens) (Separated (row_of tokens) comma (IsEntry tokens Deeper)) (entries tokens deeper) starts (whole_ext ++ comma)
    unfolding entries
    good_entries =
        good_in starts (whole_ext ++ comma) (good_separated good_entry comma (inside tokens comma refl) refl refl) refl refl

    good_collection : Good (row_of tokens) (IsCollection tokens Deeper) (collection tokens deeper) (bracket ++ brace) []
    unfolding collection
    good_collection =
        good_either (good_made n.Sequence (good_enclosed tokens bracket closing_bracket refl refl good_args refl refl))
        (good_made n.Dictionary (good_enclosed tokens brace closing_brace refl refl good_entries refl refl)) refl

    good_context : Good (row_of tokens) (IsContext tokens Deeper) (context tokens deeper) context_word []
    unfolding context context_tail
    good_context =
        good_behind
        (good_either
        (good_made n.Context
        (good_within good_args parenthesis closing_parenthesis (inside tokens parenthesis refl) (inside tokens closing_parenthesis refl) refl refl))
        good_current refl)
        context_word (inside tokens context_word refl) refl

    good_primary : Good (row_of tokens) (IsPrimary tokens Deeper) (primary tokens deeper) primary_starts parenthesis
    unfolding primary primary_node bracketed_node new_default group
    good_primary =
        good_in primary_starts parenthesis
        (good_placed tokens tree.expr
        (good_either good_literal
        (good_either good_named
        (good_either good_collection
        (good_either
        (good_made n.New (good_behind (good_type_alone tokens) new_word (inside tokens new_word refl) refl))
        (good_either good_context
        (good_made n.Group
        (good_within (inner part.Whole) parenthesis closing_parenthesis (inside tokens parenthesis refl) (inside tokens closing_parenthesis refl) refl refl)) refl) refl) refl) refl) refl))
        refl refl

    pub good_suffix : Good (row_of tokens) (IsSuffix tokens Deeper) (suffix_at tokens deeper) (point ++ bracket) parenthesis
    unfolding suffix_at suffix_node field_or_method member
    good_suffix =
        good_placed tokens tree.suffix
        (good_either
        (good_made tree.member_of
        (good_behind (good_and_optional (good_name tokens) good_arguments refl) point (inside tokens point refl) refl))
        (good_made s.Index
        (good_within (inner part.Whole) bracket closing_bracket (inside tokens bracket refl) (inside tokens closing_bracket refl) refl refl)) refl)

    good_postfix : Good (row_of tokens) (IsPostfix tokens Deeper) (postfix tokens deeper) primary_starts postfix_ext
    unfolding postfix
    good_postfix =
        good_in primary_starts postfix_ext (good_placed tokens tree.postfix_of (good_and_many good_primary good_suffix refl refl)) refl refl

    good_unary : Good (row_of tokens) (IsUnary tokens Deeper) (unary tokens deeper) sum_starts postfix_ext
    unfolding unary signed
    good_unary =
        good_in sum_starts postfix_ext
        (good_either
        (good_placed tokens (λ spot x. tree.expr spot (n.Minus x)) (good_behind (inner part.Signed) minus (inside tokens minus refl) refl))
        good_postfix refl)
        refl refl

    good_product : Good (row_of tokens) (IsProduct tokens Deeper) (product tokens deeper) sum_starts product_ext
    unfolding product factor
    good_product =
        good_in sum_starts product_ext
        (good_placed tokens tree.product_of
        (good_and_many good_unary (good_made tree.link (good_then good_multiplicative good_unary refl)) refl refl))
        refl refl

    good_sum : Good (row_of tokens) (IsSum tokens Deeper) (sum tokens deeper) sum_starts sum_ext
    unfolding sum term
    good_sum =
        good_in sum_starts sum_ext
        (good_placed tokens tree.sum_of
        (good_and_many good_product (good_made tree.link (good_then good_additive good_product refl)) refl refl))
        refl refl

    good_compared : Good (row_of tokens) (IsCompared tokens Deeper) (compared tokens deeper) sum_starts compared_ext
    unfolding compared right_side
    good_compared =
        good_in sum_starts compared_ext
        (good_placed tokens tree.compare_of (good_and_optional good_sum (good_then good_comparison good_sum refl) refl)) refl refl

    good_negation : Good (row_of tokens) (IsNegation tokens Deeper) (negation tokens deeper) starts compared_ext
    unfolding negation negated
    good_negation =
        good_in starts compared_ext
        (good_either
        (good_placed tokens (λ spot x. tree.expr spot (n.Not x)) (good_behind (inner part.Negated) not_word (inside tokens not_word refl) refl))
        good_compared refl)
        refl refl

    good_conjunction : Good (row_of tokens) (IsConjunction tokens Deeper) (conjunction tokens deeper) starts conjunction_ext
    unfolding conjunction
    good_conjunction = good_in starts conjunction_ext (good_placed tokens tree.and_of (good_joined tokens and_word refl good_negation refl refl)) refl refl

    good_exclusive : Good (row_of tokens) (IsExclusive tokens Deeper) (exclusive tokens deeper) starts exclusive_ext
    unfolding exclusive
    good_exclusive = good_in starts exclusive_ext (good_placed tokens tree.xor_of (good_joined tokens xor_word refl good_conjunction refl refl)) refl refl

    good_whole : Good (row_of tokens) (IsWhole tokens Deeper) (whole tokens deeper) starts whole_ext
    unfolding whole
    good_whole = good_in starts whole_ext (good_placed tokens tree.or_of (good_joined tokens or_word refl good_exclusive refl refl)) refl refl

    good_part : (p : Part) → Good (row_of tokens) (IsPart tokens Deeper p) (part_of tokens deeper p) (starts_of p) (ext_of p)
    good_part part.Whole = good_whole
    good_part part.Negated = good_negation
    good_part part.Sum = good_sum
    good_part part.Signed = good_unary
    good_part part.Postfix = good_postfix

  -- each part at each depth
  pub good_expr : (depth : ℕ) (p : Part) → Good (row_of tokens) (IsExprAt tokens depth p) (expr_at tokens depth p) (starts_of p) (ext_of p)
  unfolding expr_at IsExprAt
  good_expr zero p = good_none (row_of tokens) (starts_of p) (ext_of p)
  good_expr (suc depth) p = good_part (good_expr depth) p

  -- an expression, a sum and a postfix that stand alone
  pub good_expr_alone : Good (row_of tokens) (IsExpr tokens) (expr_at tokens 200 part.Whole) starts whole_ext
  unfolding IsExpr
  good_expr_alone = good_expr 200 part.Whole

  pub good_sum_alone : Good (row_of tokens) (IsSumAlone tokens) (expr_at tokens 200 part.Sum) sum_starts sum_ext
  unfolding IsSumAlone
  good_sum_alone = good_expr 200 part.Sum

  pub good_postfix_alone : Good (row_of tokens) (IsPostfixAlone tokens) (expr_at tokens 201 part.Postfix) primary_starts postfix_ext
  unfolding IsPostfixAlone
  good_postfix_alone = good_expr 201 part.Postfix
