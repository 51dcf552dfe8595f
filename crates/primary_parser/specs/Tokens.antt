-- The tokens of a text as a row, for the forms of a grammar.
use Rattle.std.specs.Prelude.{◌≡◌, ℕ, ◌+◌, ◌*◌, List, [], ◌∷◌, length, Option, Some, None, slice_get}
use Rattle.grammar_forms.specs.Rule.{Form, Row}
use Rattle.epl_lexer.specs.declared.token.Token.{Token}
use Rattle.epl_lexer.specs.declared.token.Kind.{Kind}
use Rattle.epl_lexer.specs.declared.token.Kind.TheVariants.{Name, Integer, Decimal, Quoted, Keyword, Sign, End}
use Rattle.span_text.specs.declared.spot.Spot.{Spot}

-- The kind of a token; past the last one there is the end.
abbrev pub kind_of : Option Token → Kind
kind_of None = End
kind_of (Some t) = t.kind

-- The kind of the token at a place.
abbrev pub kind_at : List Token → ℕ → Kind
kind_at tokens at = kind_of (slice_get tokens at)

-- The class of a kind of token: signs, keywords and the rest have no class in common.
abbrev pub class_of : Kind → ℕ
class_of (Sign n) = 3 * n
class_of (Keyword n) = 3 * n + 1
class_of (Name t) = 2
class_of (Integer t) = 5
class_of (Decimal t) = 8
class_of (Quoted t) = 11
class_of End = 14

-- The tokens as a row.
abbrev pub row_of : List Token → Row
row_of tokens = record { class = λ i. class_of (kind_at tokens i); len = length tokens }

-- The class of the sign with a number.
abbrev pub sign : ℕ → List ℕ
sign n = (3 * n) ∷ []

-- The class of the keyword with a number.
abbrev pub keyword : ℕ → List ℕ
keyword n = (3 * n + 1) ∷ []

-- The classes of names, of integers, of decimals and of strings.
abbrev pub names : List ℕ
names = 2 ∷ []

abbrev pub integers : List ℕ
integers = 5 ∷ []

abbrev pub decimals : List ℕ
decimals = 8 ∷ []

abbrev pub strings : List ℕ
strings = 11 ∷ []

-- One token of a kind, with its text.
abbrev pub Takes : {A : Type 0} → List Token → (A → Kind) → Form A
Takes tokens kind a at end = (kind_at tokens at ≡ kind a) × (end ≡ at + 1)

-- The spot of a token; where there is none, no spot.
abbrev pub spot_of : Option Token → Spot
spot_of None = record { line = 0; column = 0 }
spot_of (Some t) = t.spot

-- The spot of the token at a place.
abbrev pub spot_at : List Token → ℕ → Spot
spot_at tokens at = spot_of (slice_get tokens at)
