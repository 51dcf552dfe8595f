-- Readers of further forms over tokens.
use Rattle.std.specs.Prelude.{ℕ, ◌+◌, ◌==◌, Bool, false, if◌then◌else◌, List, Option, Some, None}
use Rattle.grammar_forms.specs.Rule.{Row}
use Rattle.grammar_forms.specs.Reader.{Reader, made, and_then, and_many, and_optional, item_of, behind}
use Rattle.epl_lexer.specs.declared.token.Token.{Token}
use Rattle.epl_lexer.specs.declared.token.Kind.{Kind}
use Rattle.epl_lexer.specs.declared.token.Kind.TheVariants.{Name, Integer, Decimal, Quoted, Keyword, Sign}
use Rattle.span_text.specs.declared.spot.Spot.{Spot}
use Rattle.primary_parser.specs.Tokens.{kind_at, spot_at}
use Rattle.primary_parser.specs.Rules.{listed}

-- The digits of an integer.
abbrev pub integer_by : Kind → Reader (List ℕ)
integer_by (Integer t) at = Some (t, at + 1)
integer_by _ at = None

-- The digits of a decimal and its point.
abbrev pub decimal_by : Kind → Reader (List ℕ)
decimal_by (Decimal t) at = Some (t, at + 1)
decimal_by _ at = None

-- The value of a string.
abbrev pub quoted_by : Kind → Reader (List ℕ)
quoted_by (Quoted t) at = Some (t, at + 1)
quoted_by _ at = None

-- The letters of a name.
abbrev pub name_by : Kind → Reader (List ℕ)
name_by (Name t) at = Some (t, at + 1)
name_by _ at = None

-- What a rule makes of the spot of its first token and of what was read.
abbrev pub placed : {A B : Type 0} → List Token → (Spot → A → B) → ℕ → Option (A × ℕ) → Option (B × ℕ)
placed tokens f at o = made (f (spot_at tokens at)) o

-- A list that may be left out, between an item that opens and one that closes.
unfoldable pub enclosed : {A : Type 0} → Row → List ℕ → List ℕ → Reader (List A) → Reader (List A)
enclosed row opening closing r at =
    made (λ x. listed x.0.1) (and_then (and_optional (item_of row opening at) r) (item_of row closing))

-- One, and as many further ones behind a word as there are.
unfoldable pub joined : {A : Type 0} → Row → List ℕ → Reader A → Reader (A × List A)
joined row word r at = and_many row.len (r at) (behind row word r)

-- Whether a kind is the sign with a number.
abbrev pub is_sign : ℕ → Kind → Bool
is_sign number (Sign n) = n == number
is_sign number _ = false

-- Whether a kind is the keyword with a number.
abbrev pub is_keyword : ℕ → Kind → Bool
is_keyword number (Keyword n) = n == number
is_keyword number _ = false

module _ (tokens : List Token) where
  -- The sign with a number.
  unfoldable pub sign_reader : ℕ → Reader (Unit {0})
  sign_reader number at = if is_sign number (kind_at tokens at) then Some (tt, at + 1) else None

  -- The keyword with a number.
  unfoldable pub keyword_reader : ℕ → Reader (Unit {0})
  keyword_reader number at = if is_keyword number (kind_at tokens at) then Some (tt, at + 1) else None

  unfoldable pub integer : Reader (List ℕ)
  integer at = integer_by (kind_at tokens at) at

  unfoldable pub decimal : Reader (List ℕ)
  decimal at = decimal_by (kind_at tokens at) at

  unfoldable pub quoted : Reader (List ℕ)
  quoted at = quoted_by (kind_at tokens at) at

  unfoldable pub name : Reader (List ℕ)
  name at = name_by (kind_at tokens at) at
