-- Expressions as they are written:
--   expr    = xorx { "or" xorx } .
--   xorx    = andx { "xor" andx } .
--   andx    = notx { "and" notx } .
--   notx    = "not" notx | cmpx .
--   cmpx    = sum [ ( "=" | "!=" | "<" | "<=" | ">" | ">=" ) sum ] .
--   sum     = prod { ( "+" | "-" ) prod } .
--   prod    = unaryx { ( "*" | "/" | "%" ) unaryx } .
--   unaryx  = "-" unaryx | postfix .
--   postfix = primary { "." NAME [ "(" [ args ] ")" ] | "[" expr "]" } .
--   primary = INT | STRING | "true" | "false" | NAME | NAME "(" [ args ] ")"
--           | "[" [ args ] "]" | "{" [ pair { "," pair } ] "}" | "new" type
--           | "context" "(" args ")" | "context" "." "current" "(" ")" | "(" expr ")" .
--   pair    = expr ":" expr .
--   args    = expr { "," expr } .
-- The outermost expression or sum that holds a token counts 1; each further expression in it that holds the token
-- counts 1, and each `not` and `-` in it whose operand holds the token. The count is at most 200.
use Rattle.std.specs.Prelude.{ℕ, zero, suc, Bool, true, false, List, [], ◌∷◌, Option, Some, None, bytes_eq}
use Rattle.grammar_forms.specs.Rule.{Form, Nothing, Made, Then, Many, Either, Optional, Such, IsOf, Behind, Within, Separated}
use Rattle.epl_lexer.specs.declared.token.Token.{Token}
use Rattle.epl_lexer.specs.declared.token.Kind.TheVariants as kind
use Rattle.epl_tree.specs.declared.expression.Expr.{Expr, roll-Expr}
use Rattle.epl_tree.specs.declared.expression.ExprNode.{ExprNode}
use Rattle.epl_tree.specs.declared.expression.ExprNode.TheVariants as n
use Rattle.epl_tree.specs.declared.expression.Link.{Link, roll-Link}
use Rattle.epl_tree.specs.declared.expression.Suffix.{Suffix, roll-Suffix}
use Rattle.epl_tree.specs.declared.expression.SuffixNode.{SuffixNode}
use Rattle.epl_tree.specs.declared.expression.SuffixNode.TheVariants as s
use Rattle.epl_tree.specs.declared.expression.Entry.{Entry, roll-Entry}
use Rattle.epl_tree.specs.declared.expression.Operator.{Operator}
use Rattle.epl_tree.specs.declared.expression.Operator.TheVariants as operator
use Rattle.epl_tree.specs.declared.expression.Comparison.{Comparison}
use Rattle.epl_tree.specs.declared.expression.Comparison.TheVariants as comparison
use Rattle.span_text.specs.declared.spot.Spot.{Spot}
use Rattle.primary_parser.specs.declared.part.Part.{Part}
use Rattle.primary_parser.specs.declared.part.Part.TheVariants as part
use Rattle.primary_parser.specs.Tokens.{row_of, Takes}
use Rattle.primary_parser.specs.Words.{brace, closing_brace, parenthesis, closing_parenthesis, bracket, closing_bracket, comma, point, colon, equals, differs, less, at_most, greater, at_least, plus, minus, times, divided, remainder, context_word, and_word, false_word, new_word, not_word, or_word, true_word, xor_word, current_letters}
use Rattle.primary_parser.specs.Rules.{Placed, Enclosed, Joined}
use Rattle.primary_parser.specs.Types.{IsType}

-- An expression with its spot.
abbrev pub expr : Spot → ExprNode → Expr
expr spot node = roll-Expr record { spot = spot; node = node }

-- An operator and the operand behind it.
abbrev pub link : Operator × Expr → Link
link x = roll-Link record { operator = x.0; operand = x.1 }

-- A key and its value.
abbrev pub entry : Expr × Expr → Entry
entry x = roll-Entry record { key = x.0; value = x.1 }

-- What follows a primary, with its spot.
abbrev pub suffix : Spot → SuffixNode → Suffix
suffix spot node = roll-Suffix record { spot = spot; node = node }

-- A chain is a node of its own only where it has an operator.
abbrev pub or_of : Spot → Expr × List Expr → Expr
or_of spot (first, []) = first
or_of spot (first, x ∷ xs) = expr spot (n.Or first (x ∷ xs))

abbrev pub xor_of : Spot → Expr × List Expr → Expr
xor_of spot (first, []) = first
xor_of spot (first, x ∷ xs) = expr spot (n.Xor first (x ∷ xs))

abbrev pub and_of : Spot → Expr × List Expr → Expr
and_of spot (first, []) = first
and_of spot (first, x ∷ xs) = expr spot (n.And first (x ∷ xs))

abbrev pub compare_of : Spot → Expr × Option (Comparison × Expr) → Expr
compare_of spot (left, None) = left
compare_of spot (left, Some right) = expr spot (n.Compare left right.0 right.1)

abbrev pub sum_of : Spot → Expr × List Link → Expr
sum_of spot (first, []) = first
sum_of spot (first, x ∷ xs) = expr spot (n.Sum first (x ∷ xs))

abbrev pub product_of : Spot → Expr × List Link → Expr
product_of spot (first, []) = first
product_of spot (first, x ∷ xs) = expr spot (n.Product first (x ∷ xs))

abbrev pub postfix_of : Spot → Expr × List Suffix → Expr
postfix_of spot (first, []) = first
postfix_of spot (first, x ∷ xs) = expr spot (n.Postfix first (x ∷ xs))

-- A name, or a call of it where arguments are given.
abbrev pub named_of : List ℕ × Option (List Expr) → ExprNode
named_of (name, None) = n.Name name
named_of (name, Some args) = n.Call name args

-- A field, or a method where arguments are given.
abbrev pub member_of : List ℕ × Option (List Expr) → SuffixNode
member_of (name, None) = s.Field name
member_of (name, Some args) = s.Method name args

-- Whether a name is `current`.
abbrev pub is_current : List ℕ → Bool
is_current name = bytes_eq name current_letters

module _ (tokens : List Token) where
  -- `=`, `!=`, `<`, `<=`, `>` or `>=`
  abbrev pub IsComparison : Form Comparison
  IsComparison =
      Either (Made (λ _. comparison.Equal) (IsOf (row_of tokens) equals))
      (Either (Made (λ _. comparison.NotEqual) (IsOf (row_of tokens) differs))
      (Either (Made (λ _. comparison.Less) (IsOf (row_of tokens) less))
      (Either (Made (λ _. comparison.LessEqual) (IsOf (row_of tokens) at_most))
      (Either (Made (λ _. comparison.Greater) (IsOf (row_of tokens) greater))
      (Made (λ _. comparison.GreaterEqual) (IsOf (row_of tokens) at_least))))))

  -- `+` or `-`
  abbrev pub IsAdditive : Form Operator
  IsAdditive =
      Either (Made (λ _. operator.Add) (IsOf (row_of tokens) plus)) (Made (λ _. operator.Subtract) (IsOf (row_of tokens) minus))

  -- `*`, `/` or `%`
  abbrev pub IsMultiplicative : Form Operator
  IsMultiplicative =
      Either (Made (λ _. operator.Multiply) (IsOf (row_of tokens) times))
      (Either (Made (λ _. operator.Divide) (IsOf (row_of tokens) divided))
      (Made (λ _. operator.Remainder) (IsOf (row_of tokens) remainder)))

  -- A number, a text or a truth value.
  abbrev pub IsLiteral : Form ExprNode
  IsLiteral =
      Either (Made n.Integer (Takes tokens kind.Integer))
      (Either (Made n.Quoted (Takes tokens kind.Quoted))
      (Either (Made (λ _. n.Boolean true) (IsOf (row_of tokens) true_word))
      (Made (λ _. n.Boolean false) (IsOf (row_of tokens) false_word))))

  -- `. current ( )`
  abbrev pub IsCurrent : Form ExprNode
  IsCurrent =
      Made (λ _. n.ContextCurrent)
      (Behind (row_of tokens) point
      (Then (Such is_current (Takes tokens kind.Name))
      (Then (IsOf (row_of tokens) parenthesis) (IsOf (row_of tokens) closing_parenthesis))))

  -- Deeper has the forms of what is nested one deeper.
  module _ (Deeper : Part → Form Expr) where
    abbrev pub IsArgs : Form (List Expr)
    IsArgs = Separated (row_of tokens) comma (Deeper part.Whole)

    -- `( [ args ] )`
    abbrev pub IsArguments : Form (List Expr)
    IsArguments = Enclosed (row_of tokens) parenthesis closing_parenthesis IsArgs

    abbrev pub IsNamed : Form ExprNode
    IsNamed = Made named_of (Then (Takes tokens kind.Name) (Optional IsArguments))

    abbrev pub IsEntry : Form Entry
    IsEntry = Made entry (Then (Deeper part.Whole) (Behind (row_of tokens) colon (Deeper part.Whole)))

    -- A literal of a sequence or of a dictionary.
    abbrev pub IsCollection : Form ExprNode
    IsCollection =
        Either (Made n.Sequence (Enclosed (row_of tokens) bracket closing_bracket IsArgs))
        (Made n.Dictionary
        (Enclosed (row_of tokens) brace closing_brace (Separated (row_of tokens) comma IsEntry)))

    abbrev pub IsContext : Form ExprNode
    IsContext =
        Behind (row_of tokens) context_word
        (Either (Made n.Context (Within (row_of tokens) parenthesis closing_parenthesis IsArgs)) IsCurrent)

    abbrev pub IsPrimary : Form Expr
    IsPrimary =
        Placed tokens expr
        (Either IsLiteral
        (Either IsNamed
        (Either IsCollection
        (Either (Made n.New (Behind (row_of tokens) new_word (IsType tokens)))
        (Either IsContext
        (Made n.Group (Within (row_of tokens) parenthesis closing_parenthesis (Deeper part.Whole))))))))

    abbrev pub IsSuffix : Form Suffix
    IsSuffix =
        Placed tokens suffix
        (Either (Made member_of (Behind (row_of tokens) point (Then (Takes tokens kind.Name) (Optional IsArguments))))
        (Made s.Index (Within (row_of tokens) bracket closing_bracket (Deeper part.Whole))))

    abbrev pub IsPostfix : Form Expr
    IsPostfix = Placed tokens postfix_of (Then IsPrimary (Many IsSuffix))

    abbrev pub IsUnary : Form Expr
    IsUnary =
        Either (Placed tokens (λ spot x. expr spot (n.Minus x)) (Behind (row_of tokens) minus (Deeper part.Signed)))
        IsPostfix

    abbrev pub IsProduct : Form Expr
    IsProduct = Placed tokens product_of (Then IsUnary (Many (Made link (Then (IsMultiplicative) IsUnary))))

    abbrev pub IsSum : Form Expr
    IsSum = Placed tokens sum_of (Then IsProduct (Many (Made link (Then (IsAdditive) IsProduct))))

    abbrev pub IsCompared : Form Expr
    IsCompared = Placed tokens compare_of (Then IsSum (Optional (Then (IsComparison) IsSum)))

    abbrev pub IsNegation : Form Expr
    IsNegation =
        Either (Placed tokens (λ spot x. expr spot (n.Not x)) (Behind (row_of tokens) not_word (Deeper part.Negated)))
        IsCompared

    abbrev pub IsConjunction : Form Expr
    IsConjunction = Placed tokens and_of (Joined (row_of tokens) and_word IsNegation)

    abbrev pub IsExclusive : Form Expr
    IsExclusive = Placed tokens xor_of (Joined (row_of tokens) xor_word IsConjunction)

    abbrev pub IsWhole : Form Expr
    IsWhole = Placed tokens or_of (Joined (row_of tokens) or_word IsExclusive)

    -- Each part over what is nested one deeper.
    abbrev pub IsPart : Part → Form Expr
    IsPart part.Whole = IsWhole
    IsPart part.Negated = IsNegation
    IsPart part.Sum = IsSum
    IsPart part.Signed = IsUnary
    IsPart part.Postfix = IsPostfix

  -- A part that nests at most so deep.
  unfoldable pub IsExprAt : ℕ → Part → Form Expr
  IsExprAt zero part = Nothing
  IsExprAt (suc depth) part = IsPart (IsExprAt depth) part

-- An expression.
unfoldable pub IsExpr : List Token → Form Expr
IsExpr tokens = IsExprAt tokens 200 part.Whole

-- A sum that stands alone.
unfoldable pub IsSumAlone : List Token → Form Expr
IsSumAlone tokens = IsExprAt tokens 200 part.Sum

-- A postfix that stands alone: the expressions in it are outermost.
unfoldable pub IsPostfixAlone : List Token → Form Expr
IsPostfixAlone tokens = IsExprAt tokens 201 part.Postfix

-- No expression begins there.
abbrev pub IsNoExpr : List Token → ℕ → Type 0
IsNoExpr tokens at = (e : Expr) (end : ℕ) → IsExpr tokens e at end → ⊥
