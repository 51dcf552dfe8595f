-- Further forms over tokens.
use Rattle.std.specs.Prelude.{ℕ, List, [], Option, Some, None}
use Rattle.grammar_forms.specs.Rule.{Form, Row, Made, Then, Many, Optional, IsOf, Behind}
use Rattle.epl_lexer.specs.declared.token.Token.{Token}
use Rattle.span_text.specs.declared.spot.Spot.{Spot}
use Rattle.primary_parser.specs.Tokens.{spot_at}

-- What a rule makes of the spot of its first token and of the tree of its parts.
abbrev pub Placed : {A B : Type 0} → List Token → (Spot → A → B) → Form A → Form B
Placed tokens f P b at end = Made (f (spot_at tokens at)) P b at end

-- The items of a list that may be left out.
abbrev pub listed : {A : Type 0} → Option (List A) → List A
listed None = []
listed (Some items) = items

-- A list that may be left out, between an item that opens and one that closes.
abbrev pub Enclosed : {A : Type 0} → Row → List ℕ → List ℕ → Form (List A) → Form (List A)
Enclosed row opening closing P = Made (λ x. listed x.0.1) (Then (Then (IsOf row opening) (Optional P)) (IsOf row closing))

-- One, and any number of further ones behind a word each.
abbrev pub Joined : {A : Type 0} → Row → List ℕ → Form A → Form (A × List A)
Joined row word P = Then P (Many (Behind row word P))
