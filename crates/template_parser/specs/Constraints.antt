-- Constraints on the fields of an event as they are written:
--   constraint = "*" | sum | cmp sum | range | NAME ( "=" | cmp ) sum | NAME "in" range .
--   cmp        = "<" | "<=" | ">" | ">=" .
--   range      = ( "[" | "(" ) sum ":" sum ( "]" | ")" ) .
-- A constraint that begins with a NAME before `=`, a `cmp` or `in` is a named one. One that begins with `[` is a range,
-- and one that begins with `(` is a range if `:` follows the first sum.
use Rattle.std.specs.Prelude.{Bool, true, false, List}
use Rattle.grammar_forms.specs.Rule.{Form, Made, Then, Either, IsOf, Behind}
use Rattle.epl_lexer.specs.declared.token.Token.{Token}
use Rattle.epl_lexer.specs.declared.token.Kind.TheVariants as kind
use Rattle.epl_tree.specs.declared.expression.Expr.{Expr}
use Rattle.epl_tree.specs.declared.expression.Comparison.{Comparison}
use Rattle.epl_tree.specs.declared.expression.Comparison.TheVariants as comparison
use Rattle.epl_tree.specs.declared.event.Constraint.{Constraint}
use Rattle.epl_tree.specs.declared.event.ConstraintNode.{ConstraintNode}
use Rattle.epl_tree.specs.declared.event.ConstraintNode.TheVariants as c
use Rattle.epl_tree.specs.declared.event.Range.{Range}
use Rattle.epl_tree.specs.declared.event.RangeEnd.{RangeEnd}
use Rattle.span_text.specs.declared.spot.Spot.{Spot}
use Rattle.primary_parser.specs.Tokens.{row_of, Takes}
use Rattle.primary_parser.specs.Words.{parenthesis, closing_parenthesis, bracket, closing_bracket, colon, equals, less, at_most, greater, at_least, times}
use Rattle.primary_parser.specs.Rules.{Placed}
use Rattle.primary_parser.specs.Grammar.{IsSumAlone}
use Rattle.template_parser.specs.Words.{in_word}
use Rattle.template_parser.specs.Rules.{Unless}

-- A constraint with its spot.
abbrev pub constraint : Spot → ConstraintNode → Constraint
constraint spot node = record { spot = spot; node = node }

-- The lower end of a range, behind the sign that opens it; true is closed.
abbrev pub low_of : Bool × Expr → RangeEnd
low_of x = record { closed = x.0; bound = x.1 }

-- The upper end of a range, before the sign that closes it.
abbrev pub high_of : Expr × Bool → RangeEnd
high_of x = record { closed = x.1; bound = x.0 }

abbrev pub range_of : RangeEnd × RangeEnd → Range
range_of x = record { low = x.0; high = x.1 }

module _ (tokens : List Token) where
  -- `<`, `<=`, `>` or `>=`
  abbrev pub IsOrder : Form Comparison
  IsOrder =
      Either (Made (λ _. comparison.Less) (IsOf (row_of tokens) less))
      (Either (Made (λ _. comparison.LessEqual) (IsOf (row_of tokens) at_most))
      (Either (Made (λ _. comparison.Greater) (IsOf (row_of tokens) greater))
      (Made (λ _. comparison.GreaterEqual) (IsOf (row_of tokens) at_least))))

  -- `=`, `<`, `<=`, `>` or `>=`
  abbrev pub IsTest : Form Comparison
  IsTest = Either (Made (λ _. comparison.Equal) (IsOf (row_of tokens) equals)) IsOrder

  -- `[` for a closed end, `(` for an open one
  abbrev pub IsOpening : Form Bool
  IsOpening =
      Either (Made (λ _. true) (IsOf (row_of tokens) bracket)) (Made (λ _. false) (IsOf (row_of tokens) parenthesis))

  -- `]` for a closed end, `)` for an open one
  abbrev pub IsClosing : Form Bool
  IsClosing =
      Either (Made (λ _. true) (IsOf (row_of tokens) closing_bracket))
      (Made (λ _. false) (IsOf (row_of tokens) closing_parenthesis))

  abbrev pub IsLow : Form RangeEnd
  IsLow = Made low_of (Then IsOpening (IsSumAlone tokens))

  abbrev pub IsHigh : Form RangeEnd
  IsHigh = Made high_of (Then (IsSumAlone tokens) IsClosing)

  abbrev pub IsRange : Form Range
  IsRange = Made range_of (Then IsLow (Behind (row_of tokens) colon IsHigh))

  -- An order and the sum behind it.
  abbrev pub IsOrdered : Form ConstraintNode
  IsOrdered = Made (λ x. c.Compares x.0 x.1) (Then IsOrder (IsSumAlone tokens))

  abbrev pub IsNamedTest : Form ConstraintNode
  IsNamedTest =
      Made (λ x. c.NamedCompares x.0 x.1.0 x.1.1) (Then (Takes tokens kind.Name) (Then IsTest (IsSumAlone tokens)))

  abbrev pub IsNamedRange : Form ConstraintNode
  IsNamedRange =
      Made (λ x. c.NamedLies x.0 x.1) (Then (Takes tokens kind.Name) (Behind (row_of tokens) in_word IsRange))

  -- A range, or a named constraint.
  abbrev pub IsRangeOrNamed : Form ConstraintNode
  IsRangeOrNamed = Either (Made c.Lies IsRange) (Either IsNamedTest IsNamedRange)

  -- `(`, a sum and `:`
  abbrev pub IsRangeHead : Form (Unit {0})
  IsRangeHead =
      Made (λ _. tt) (Behind (row_of tokens) parenthesis (Then (IsSumAlone tokens) (IsOf (row_of tokens) colon)))

  -- `=`, `<`, `<=`, `>`, `>=` or `in`
  abbrev pub IsMark : Form (Unit {0})
  IsMark = Either (Made (λ _. tt) IsTest) (IsOf (row_of tokens) in_word)

  -- A NAME before one of these.
  abbrev pub IsNamedHead : Form (Unit {0})
  IsNamedHead = Made (λ _. tt) (Then (Takes tokens kind.Name) IsMark)

  -- What makes a constraint a range or a named one.
  abbrev pub IsHead : Form (Unit {0})
  IsHead = Either (IsOf (row_of tokens) bracket) (Either IsRangeHead IsNamedHead)

  -- A sum.
  abbrev pub IsPlain : Form ConstraintNode
  IsPlain = Made c.Equals (Unless IsHead (IsSumAlone tokens))

  abbrev pub IsConstraint : Form Constraint
  IsConstraint =
      Placed tokens constraint
      (Either (Made (λ _. c.Any) (IsOf (row_of tokens) times)) (Either IsOrdered (Either IsRangeOrNamed IsPlain)))
