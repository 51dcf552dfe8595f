-- Types are read just as the grammar says.
use Rattle.std.proofs.Common.{ℕ, zero, suc, List, [], ◌++◌, refl}
use Rattle.grammar_forms.specs.Rule.{Then, Behind, Within}
use Rattle.grammar_forms.specs.Reader.{Reader}
use Rattle.grammar_forms.specs.Good.{Good}
use Rattle.grammar_forms.proofs.Good.{good_none, good_made, good_then, good_either, good_in}
use Rattle.grammar_forms.proofs.Joined.{good_behind, good_within}
use Rattle.epl_lexer.specs.declared.token.Token.{Token}
use Rattle.epl_tree.specs.declared.types.TypeExpr.{TypeExpr}
use Rattle.epl_tree.specs.declared.types.TypeNode.TheVariants as t
use Rattle.primary_parser.specs.Tokens.{row_of, names}
use Rattle.primary_parser.specs.Words.{less, greater, comma, boolean_word, context_word, dictionary_word, integer_word, listener_word, sequence_word, string_word}
use Rattle.primary_parser.specs.Types.{type_expr, IsKeywordType, IsCollectionType, IsTypeOver, IsTypeAt, IsType}
use Rattle.primary_parser.specs.Reading.{keyword_type, element, key_and_value, bracketed, collection_type, type_node, type_over, type_at}
use Rattle.expr_parser.proofs.Items.{inside, good_name, good_word, good_placed}

-- what may begin a type
abbrev pub type_starts : List ℕ
type_starts = integer_word ++ (boolean_word ++ (string_word ++ (context_word ++ (listener_word ++ (names ++ (sequence_word ++ dictionary_word))))))

module _ (tokens : List Token) where
  good_keyword_type : Good (row_of tokens) (IsKeywordType tokens) (keyword_type tokens) (integer_word ++ (boolean_word ++ (string_word ++ (context_word ++ listener_word)))) []
  unfolding keyword_type
  good_keyword_type =
      good_either (good_made (λ _. t.Integer) (good_word tokens integer_word refl))
      (good_either (good_made (λ _. t.Boolean) (good_word tokens boolean_word refl))
      (good_either (good_made (λ _. t.Text) (good_word tokens string_word refl))
      (good_either (good_made (λ _. t.Context) (good_word tokens context_word refl))
      (good_made (λ _. t.Listener) (good_word tokens listener_word refl)) refl) refl) refl) refl

  module _ {P : TypeExpr → ℕ → ℕ → Type 0} {p : Reader TypeExpr} (inner : Good (row_of tokens) P p type_starts []) where
    good_element : Good (row_of tokens) (Within (row_of tokens) less greater P) (element tokens p) less []
    unfolding element
    good_element = good_within inner less greater (inside tokens less refl) (inside tokens greater refl) refl refl

    good_key_and_value : Good (row_of tokens) (Then P (Behind (row_of tokens) comma P)) (key_and_value tokens p) type_starts []
    unfolding key_and_value
    good_key_and_value = good_then inner (good_behind inner comma (inside tokens comma refl) refl) refl

    good_bracketed : Good (row_of tokens) (Within (row_of tokens) less greater (Then P (Behind (row_of tokens) comma P))) (bracketed tokens p) less []
    unfolding bracketed
    good_bracketed = good_within good_key_and_value less greater (inside tokens less refl) (inside tokens greater refl) refl refl

    good_collection_type : Good (row_of tokens) (IsCollectionType tokens P) (collection_type tokens p) (sequence_word ++ dictionary_word) []
    unfolding collection_type
    good_collection_type =
        good_either (good_made t.Sequence (good_behind good_element sequence_word (inside tokens sequence_word refl) refl))
        (good_made (λ x. t.Dictionary x.0 x.1) (good_behind good_bracketed dictionary_word (inside tokens dictionary_word refl) refl)) refl

    good_type_over : Good (row_of tokens) (IsTypeOver tokens P) (type_over tokens p) type_starts []
    unfolding type_over type_node
    good_type_over =
        good_in type_starts []
        (good_placed tokens type_expr
        (good_either good_keyword_type
        (good_either (good_made t.Named (good_name tokens)) good_collection_type refl) refl)) refl refl

  pub good_type : (depth : ℕ) → Good (row_of tokens) (IsTypeAt tokens depth) (type_at tokens depth) type_starts []
  unfolding type_at IsTypeAt
  good_type zero = good_none (row_of tokens) type_starts []
  good_type (suc depth) = good_type_over (good_type depth)

  -- a type that stands alone
  pub good_type_alone : Good (row_of tokens) (IsType tokens) (type_at tokens 200) type_starts []
  unfolding IsType
  good_type_alone = good_type 200
