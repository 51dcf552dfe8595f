-- Types and expressions read from left to right, each repetition as far as it goes.
use Rattle.std.specs.Prelude.{ℕ, zero, suc, true, false, List, length, Option}
use Rattle.grammar_forms.specs.Reader.{Reader, none, made, and_then, or_else, and_many, and_optional, such, item_of, behind, within, separated}
use Rattle.epl_lexer.specs.declared.token.Token.{Token}
use Rattle.epl_tree.specs.declared.types.TypeExpr.{TypeExpr}
use Rattle.epl_tree.specs.declared.types.TypeNode.{TypeNode}
use Rattle.epl_tree.specs.declared.types.TypeNode.TheVariants as t
use Rattle.epl_tree.specs.declared.expression.Expr.{Expr}
use Rattle.epl_tree.specs.declared.expression.ExprNode.{ExprNode}
use Rattle.epl_tree.specs.declared.expression.ExprNode.TheVariants as n
use Rattle.epl_tree.specs.declared.expression.Link.{Link}
use Rattle.epl_tree.specs.declared.expression.Suffix.{Suffix}
use Rattle.epl_tree.specs.declared.expression.SuffixNode.{SuffixNode}
use Rattle.epl_tree.specs.declared.expression.SuffixNode.TheVariants as s
use Rattle.epl_tree.specs.declared.expression.Entry.{Entry}
use Rattle.epl_tree.specs.declared.expression.Operator.{Operator}
use Rattle.epl_tree.specs.declared.expression.Operator.TheVariants as operator
use Rattle.epl_tree.specs.declared.expression.Comparison.{Comparison}
use Rattle.epl_tree.specs.declared.expression.Comparison.TheVariants as comparison
use Rattle.primary_parser.specs.declared.part.Part.{Part}
use Rattle.primary_parser.specs.declared.part.Part.TheVariants as part
use Rattle.primary_parser.specs.Tokens.{row_of}
use Rattle.primary_parser.specs.Words.{brace, closing_brace, parenthesis, closing_parenthesis, bracket, closing_bracket, comma, point, colon, equals, differs, less, at_most, greater, at_least, plus, minus, times, divided, remainder, boolean_word, context_word, dictionary_word, integer_word, listener_word, sequence_word, string_word, and_word, false_word, new_word, not_word, or_word, true_word, xor_word}
use Rattle.primary_parser.specs.Types.{type_expr}
use Rattle.primary_parser.specs.Grammar.{expr, link, entry, suffix, or_of, xor_of, and_of, compare_of, sum_of, product_of, postfix_of, named_of, member_of, is_current}
use Rattle.primary_parser.specs.Reader.{placed, enclosed, joined, integer, quoted, name}

-- ---- types

module _ (tokens : List Token) where
  unfoldable pub keyword_type : Reader TypeNode
  keyword_type at =
      or_else (made (λ _. t.Integer) (item_of (row_of tokens) integer_word at))
      (or_else (made (λ _. t.Boolean) (item_of (row_of tokens) boolean_word at))
      (or_else (made (λ _. t.Text) (item_of (row_of tokens) string_word at))
      (or_else (made (λ _. t.Context) (item_of (row_of tokens) context_word at))
      (made (λ _. t.Listener) (item_of (row_of tokens) listener_word at)))))

  module _ (deeper : Reader TypeExpr) where
    unfoldable pub element : Reader TypeExpr
    element at = within (row_of tokens) less greater deeper at

    unfoldable pub key_and_value : Reader (TypeExpr × TypeExpr)
    key_and_value at = and_then (deeper at) (behind (row_of tokens) comma deeper)

    unfoldable pub bracketed : Reader (TypeExpr × TypeExpr)
    bracketed at = within (row_of tokens) less greater key_and_value at

    unfoldable pub collection_type : Reader TypeNode
    collection_type at =
        or_else (made t.Sequence (behind (row_of tokens) sequence_word element at))
        (made (λ x. t.Dictionary x.0 x.1) (behind (row_of tokens) dictionary_word bracketed at))

    unfoldable pub type_node : Reader TypeNode
    type_node at = or_else (keyword_type at) (or_else (made t.Named (name tokens at)) (collection_type at))

    unfoldable pub type_over : Reader TypeExpr
    type_over at = placed tokens type_expr at (type_node at)

  -- A type that nests at most so deep.
  unfoldable pub type_at : ℕ → Reader TypeExpr
  type_at zero = none
  type_at (suc depth) = type_over (type_at depth)

-- ---- expressions

module _ (tokens : List Token) where
  unfoldable pub compared_by : Reader Comparison
  compared_by at =
      or_else (made (λ _. comparison.Equal) (item_of (row_of tokens) equals at))
      (or_else (made (λ _. comparison.NotEqual) (item_of (row_of tokens) differs at))
      (or_else (made (λ _. comparison.Less) (item_of (row_of tokens) less at))
      (or_else (made (λ _. comparison.LessEqual) (item_of (row_of tokens) at_most at))
      (or_else (made (λ _. comparison.Greater) (item_of (row_of tokens) greater at))
      (made (λ _. comparison.GreaterEqual) (item_of (row_of tokens) at_least at))))))

  unfoldable pub additive : Reader Operator
  additive at =
      or_else (made (λ _. operator.Add) (item_of (row_of tokens) plus at))
      (made (λ _. operator.Subtract) (item_of (row_of tokens) minus at))

  unfoldable pub multiplicative : Reader Operator
  multiplicative at =
      or_else (made (λ _. operator.Multiply) (item_of (row_of tokens) times at))
      (or_else (made (λ _. operator.Divide) (item_of (row_of tokens) divided at))
      (made (λ _. operator.Remainder) (item_of (row_of tokens) remainder at)))

  unfoldable pub literal : Reader ExprNode
  literal at =
      or_else (made n.Integer (integer tokens at))
      (or_else (made n.Quoted (quoted tokens at))
      (or_else (made (λ _. n.Boolean true) (item_of (row_of tokens) true_word at))
      (made (λ _. n.Boolean false) (item_of (row_of tokens) false_word at))))

  unfoldable pub new_default : Reader ExprNode
  new_default at = made n.New (behind (row_of tokens) new_word (type_at tokens 200) at)

  unfoldable pub current_word : Reader (List ℕ)
  current_word at = such is_current (name tokens at)

  unfoldable pub empty_parentheses : Reader (Unit {0} × Unit {0})
  empty_parentheses at = and_then (item_of (row_of tokens) parenthesis at) (item_of (row_of tokens) closing_parenthesis)

  unfoldable pub current_call : Reader (List ℕ × (Unit {0} × Unit {0}))
  current_call at = and_then (current_word at) empty_parentheses

  unfoldable pub current : Reader ExprNode
  current at = made (λ _. n.ContextCurrent) (behind (row_of tokens) point current_call at)

  module _ (deeper : Part → Reader Expr) where
    unfoldable pub args : Reader (List Expr)
    args at = separated (row_of tokens) comma (deeper part.Whole) at

    unfoldable pub arguments : Reader (List Expr)
    arguments at = enclosed (row_of tokens) parenthesis closing_parenthesis args at

    unfoldable pub named : Reader ExprNode
    named at = made named_of (and_optional (name tokens at) arguments)

    unfoldable pub entry_at : Reader Entry
    entry_at at = made entry (and_then (deeper part.Whole at) (behind (row_of tokens) colon (deeper part.Whole)))

    unfoldable pub entries : Reader (List Entry)
    entries at = separated (row_of tokens) comma entry_at at

    unfoldable pub collection : Reader ExprNode
    collection at =
        or_else (made n.Sequence (enclosed (row_of tokens) bracket closing_bracket args at))
        (made n.Dictionary (enclosed (row_of tokens) brace closing_brace entries at))

    unfoldable pub context_tail : Reader ExprNode
    context_tail at =
        or_else (made n.Context (within (row_of tokens) parenthesis closing_parenthesis args at)) (current at)

    unfoldable pub context : Reader ExprNode
    context at = behind (row_of tokens) context_word context_tail at

    unfoldable pub group : Reader ExprNode
    group at = made n.Group (within (row_of tokens) parenthesis closing_parenthesis (deeper part.Whole) at)

    unfoldable pub bracketed_node : Reader ExprNode
    bracketed_node at = or_else (collection at) (or_else (new_default at) (or_else (context at) (group at)))

    unfoldable pub primary_node : Reader ExprNode
    primary_node at = or_else (literal at) (or_else (named at) (bracketed_node at))

    unfoldable pub primary : Reader Expr
    primary at = placed tokens expr at (primary_node at)

    unfoldable pub member : Reader (List ℕ × Option (List Expr))
    member at = and_optional (name tokens at) arguments

    unfoldable pub field_or_method : Reader SuffixNode
    field_or_method at = made member_of (behind (row_of tokens) point member at)

    unfoldable pub suffix_node : Reader SuffixNode
    suffix_node at =
        or_else (field_or_method at)
        (made s.Index (within (row_of tokens) bracket closing_bracket (deeper part.Whole) at))

    unfoldable pub suffix_at : Reader Suffix
    suffix_at at = placed tokens suffix at (suffix_node at)

    unfoldable pub postfix : Reader Expr
    postfix at = placed tokens postfix_of at (and_many (length tokens) (primary at) suffix_at)

    unfoldable pub signed : Reader Expr
    signed at = placed tokens (λ spot x. expr spot (n.Minus x)) at (behind (row_of tokens) minus (deeper part.Signed) at)

    unfoldable pub unary : Reader Expr
    unary at = or_else (signed at) (postfix at)

    unfoldable pub factor : Reader Link
    factor at = made link (and_then (multiplicative at) unary)

    unfoldable pub product : Reader Expr
    product at = placed tokens product_of at (and_many (length tokens) (unary at) factor)

    unfoldable pub term : Reader Link
    term at = made link (and_then (additive at) product)

    unfoldable pub sum : Reader Expr
    sum at = placed tokens sum_of at (and_many (length tokens) (product at) term)

    unfoldable pub right_side : Reader (Comparison × Expr)
    right_side at = and_then (compared_by at) sum

    unfoldable pub compared : Reader Expr
    compared at = placed tokens compare_of at (and_optional (sum at) right_side)

    unfoldable pub negated : Reader Expr
    negated at = placed tokens (λ spot x. expr spot (n.Not x)) at (behind (row_of tokens) not_word (deeper part.Negated) at)

    unfoldable pub negation : Reader Expr
    negation at = or_else (negated at) (compared at)

    unfoldable pub conjunction : Reader Expr
    conjunction at = placed tokens and_of at (joined (row_of tokens) and_word negation at)

    unfoldable pub exclusive : Reader Expr
    exclusive at = placed tokens xor_of at (joined (row_of tokens) xor_word conjunction at)

    unfoldable pub whole : Reader Expr
    whole at = placed tokens or_of at (joined (row_of tokens) or_word exclusive at)

    abbrev pub part_of : Part → Reader Expr
    part_of part.Whole = whole
    part_of part.Negated = negation
    part_of part.Sum = sum
    part_of part.Signed = unary
    part_of part.Postfix = postfix

  -- A part that nests at most so deep.
  unfoldable pub expr_at : ℕ → Part → Reader Expr
  expr_at zero part = none
  expr_at (suc depth) part = part_of (expr_at depth) part
