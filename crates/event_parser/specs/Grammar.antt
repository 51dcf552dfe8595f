-- Event expressions as they are written:
--   eventexpr = orx { "->" orx } .
--   orx       = exx { "or" exx } .
--   exx       = anx { "xor" anx } .
--   anx       = unx { "and" unx } .
--   unx       = ( "all" | "not" ) unx | atom .
--   atom      = "(" eventexpr ")" | "wait" "(" duration ")" | template .
-- The outermost event expression that holds a token counts 1; each further event expression in it that holds the token
-- counts 1, and each `all` and `not` in it whose operand holds the token. The count is at most 200.
use Rattle.std.specs.Prelude.{ℕ, zero, suc, List, [], ◌∷◌, None}
use Rattle.grammar_forms.specs.Rule.{Form, Nothing, Made, Either, Behind, Within}
use Rattle.epl_lexer.specs.declared.token.Token.{Token}
use Rattle.epl_tree.specs.declared.event.EventExpr.{EventExpr, roll-EventExpr}
use Rattle.epl_tree.specs.declared.event.EventNode.{EventNode}
use Rattle.epl_tree.specs.declared.event.EventNode.TheVariants as n
use Rattle.span_text.specs.declared.spot.Spot.{Spot}
use Rattle.primary_parser.specs.Tokens.{row_of}
use Rattle.primary_parser.specs.Words.{parenthesis, closing_parenthesis, and_word, not_word, or_word, xor_word}
use Rattle.primary_parser.specs.Rules.{Placed, Joined}
use Rattle.event_parser.specs.declared.part.EventPart.{EventPart}
use Rattle.event_parser.specs.declared.part.EventPart.TheVariants as part
use Rattle.template_parser.specs.Words.{arrow, all_word, wait_word}
use Rattle.template_parser.specs.Templates.{IsSpan, IsTemplate}

-- An event expression with its spot.
abbrev pub event : Spot → EventNode → EventExpr
event spot node = roll-EventExpr record { spot = spot; node = node }

-- A chain is a node of its own only where it has an operator.
abbrev pub followed_of : Spot → EventExpr × List EventExpr → EventExpr
followed_of spot (first, []) = first
followed_of spot (first, x ∷ xs) = event spot (n.Followed first (x ∷ xs))

abbrev pub or_of : Spot → EventExpr × List EventExpr → EventExpr
or_of spot (first, []) = first
or_of spot (first, x ∷ xs) = event spot (n.Or first (x ∷ xs))

abbrev pub xor_of : Spot → EventExpr × List EventExpr → EventExpr
xor_of spot (first, []) = first
xor_of spot (first, x ∷ xs) = event spot (n.Xor first (x ∷ xs))

abbrev pub and_of : Spot → EventExpr × List EventExpr → EventExpr
and_of spot (first, []) = first
and_of spot (first, x ∷ xs) = event spot (n.And first (x ∷ xs))

module _ (tokens : List Token) where
  -- Deeper has the forms of what is nested one deeper.
  module _ (Deeper : EventPart → Form EventExpr) where
    abbrev pub IsAtom : Form EventNode
    IsAtom =
        Either (Made (λ x. n.Group x None) (Within (row_of tokens) parenthesis closing_parenthesis (Deeper part.Whole)))
        (Either (Made n.Wait (Behind (row_of tokens) wait_word (IsSpan tokens))) (Made n.Template (IsTemplate tokens)))

    abbrev pub IsUnary : Form EventExpr
    IsUnary =
        Placed tokens event
        (Either (Made n.All (Behind (row_of tokens) all_word (Deeper part.Prefixed)))
        (Either (Made n.Not (Behind (row_of tokens) not_word (Deeper part.Prefixed))) IsAtom))

    abbrev pub IsConjunction : Form EventExpr
    IsConjunction = Placed tokens and_of (Joined (row_of tokens) and_word IsUnary)

    abbrev pub IsExclusive : Form EventExpr
    IsExclusive = Placed tokens xor_of (Joined (row_of tokens) xor_word IsConjunction)

    abbrev pub IsDisjunction : Form EventExpr
    IsDisjunction = Placed tokens or_of (Joined (row_of tokens) or_word IsExclusive)

    abbrev pub IsWhole : Form EventExpr
    IsWhole = Placed tokens followed_of (Joined (row_of tokens) arrow IsDisjunction)

    -- Each part over what is nested one deeper.
    abbrev pub IsPart : EventPart → Form EventExpr
    IsPart part.Whole = IsWhole
    IsPart part.Prefixed = IsUnary

  -- A part that nests at most so deep.
  unfoldable pub IsEventAt : ℕ → EventPart → Form EventExpr
  IsEventAt zero part = Nothing
  IsEventAt (suc depth) part = IsPart (IsEventAt depth) part

-- An event expression.
unfoldable pub IsEvent : List Token → Form EventExpr
IsEvent tokens = IsEventAt tokens 200 part.Whole

-- No event expression begins there.
abbrev pub IsNoEvent : List Token → ℕ → Type 0
IsNoEvent tokens at = (e : EventExpr) (end : ℕ) → IsEvent tokens e at end → ⊥
