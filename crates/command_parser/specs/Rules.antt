-- Further forms over tokens.
use Rattle.std.specs.Prelude.{◌≡◌, ℕ, false, List}
use Rattle.grammar_forms.specs.Rule.{Form, Row, has, Made, Then, Many, IsOf}
use Rattle.primary_parser.specs.Words.{brace, closing_brace}

-- One before an item of a class, as before a sign.
abbrev pub Before : {A : Type 0} → Row → List ℕ → Form A → Form A
Before row set P = Made (λ x. x.0) (Then P (IsOf row set))

-- Any number of them between braces.
abbrev pub Braced : {A : Type 0} → Row → Form A → Form (List A)
Braced row P = Made (λ x. x.0.1) (Then (Then (IsOf row brace) (Many P)) (IsOf row closing_brace))

-- One that doesn't begin with a class.
abbrev pub Unless : {A : Type 0} → Row → List ℕ → Form A → Form A
Unless row set P a at end = (has row set at ≡ false) × P a at end

-- One with no item of a class behind it.
abbrev pub Unfollowed : {A : Type 0} → Row → List ℕ → Form A → Form A
Unfollowed row set P a at end = P a at end × (has row set end ≡ false)
