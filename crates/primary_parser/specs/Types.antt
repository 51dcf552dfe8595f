-- Types as they are written:
--   type = "integer" | "boolean" | "string" | "context" | "listener" | NAME
--        | "sequence" "<" type ">" | "dictionary" "<" type "," type ">" .
use Rattle.std.specs.Prelude.{ℕ, zero, suc, List}
use Rattle.grammar_forms.specs.Rule.{Form, Nothing, Made, Then, Either, IsOf, Behind, Within}
use Rattle.epl_lexer.specs.declared.token.Token.{Token}
use Rattle.epl_lexer.specs.declared.token.Kind.TheVariants as kind
use Rattle.epl_tree.specs.declared.types.TypeExpr.{TypeExpr, roll-TypeExpr}
use Rattle.epl_tree.specs.declared.types.TypeNode.{TypeNode}
use Rattle.epl_tree.specs.declared.types.TypeNode.TheVariants as t
use Rattle.span_text.specs.declared.spot.Spot.{Spot}
use Rattle.primary_parser.specs.Tokens.{row_of, Takes}
use Rattle.primary_parser.specs.Words.{less, greater, comma, boolean_word, context_word, dictionary_word, integer_word, listener_word, sequence_word, string_word}
use Rattle.primary_parser.specs.Rules.{Placed}

-- A type with its spot.
abbrev pub type_expr : Spot → TypeNode → TypeExpr
type_expr spot node = roll-TypeExpr record { spot = spot; node = node }

module _ (tokens : List Token) where
  -- A type that is one keyword.
  abbrev pub IsKeywordType : Form TypeNode
  IsKeywordType =
      Either (Made (λ _. t.Integer) (IsOf (row_of tokens) integer_word))
      (Either (Made (λ _. t.Boolean) (IsOf (row_of tokens) boolean_word))
      (Either (Made (λ _. t.Text) (IsOf (row_of tokens) string_word))
      (Either (Made (λ _. t.Context) (IsOf (row_of tokens) context_word))
      (Made (λ _. t.Listener) (IsOf (row_of tokens) listener_word)))))

  -- Deeper is the form of types that are nested one deeper.
  module _ (Deeper : Form TypeExpr) where
    -- A type of its elements, or of its keys and values.
    abbrev pub IsCollectionType : Form TypeNode
    IsCollectionType =
        Either (Made t.Sequence (Behind (row_of tokens) sequence_word (Within (row_of tokens) less greater Deeper)))
        (Made (λ x. t.Dictionary x.0 x.1)
        (Behind (row_of tokens) dictionary_word
        (Within (row_of tokens) less greater (Then Deeper (Behind (row_of tokens) comma Deeper)))))

    -- A type.
    abbrev pub IsTypeOver : Form TypeExpr
    IsTypeOver = Placed tokens type_expr (Either IsKeywordType (Either (Made t.Named (Takes tokens kind.Name)) IsCollectionType))

  -- Types that nest at most so deep.
  unfoldable pub IsTypeAt : ℕ → Form TypeExpr
  IsTypeAt zero = Nothing
  IsTypeAt (suc depth) = IsTypeOver (IsTypeAt depth)

-- Types nest at most 200 deep.
unfoldable pub IsType : List Token → Form TypeExpr
IsType tokens = IsTypeAt tokens 200
