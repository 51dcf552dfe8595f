-- How a value is written.
use Rattle.value_rules.specs.Common.{ℕ, List, [], Bool, true, false, Option, Some, None, slice_get, EventShape, Value, Value-F, fold-Value, Pair, Pair-F, fold-Pair}
use Rattle.std.specs.Prelude.{◌∷◌, ◌==◌, ◌++◌, if◌then◌else◌, unwrap_or, codes}
use Rattle.std.specs.Fmt.{signed_decimal}
use Rattle.std.specs.List.{flat_map}
use Rattle.epl_values.specs.declared.value.Value.TheOpen as layer

-- a quote, a backslash, a newline, a carriage return and a tab have an escape
abbrev pub escape_of : ℕ → Option (List ℕ)
escape_of byte =
    if byte == 34 then Some (codes "\\\"") else (
    if byte == 92 then Some (codes "\\\\") else (
    if byte == 10 then Some (codes "\\n") else (
    if byte == 13 then Some (codes "\\r") else (
    if byte == 9 then Some (codes "\\t") else None))))

-- a byte of a string is its escape, or itself
abbrev pub escaped : ℕ → List ℕ
escaped byte = unwrap_or (escape_of byte) (byte ∷ [])

-- a string in quotes
abbrev pub quoted : List ℕ → List ℕ
quoted bytes = 34 ∷ flat_map escaped bytes ++ 34 ∷ []

-- true or false
abbrev pub truth_text : Bool → List ℕ
truth_text true = codes "true"
truth_text false = codes "false"

-- texts with a comma between each two
abbrev pub with_commas : List (List ℕ) → List ℕ
with_commas [] = []
with_commas (text ∷ texts) = text ++ flat_map (λ t. 44 ∷ t) texts

-- a comma, but none before the first text
abbrev pub comma_before : Bool → List ℕ
comma_before true = []
comma_before false = 44 ∷ []

-- the name of an event type, empty where there is no such type
abbrev pub name_in : Option EventShape → List ℕ
name_in None = []
name_in (Some event) = event.name

-- a value, with the texts of its parts; a context or a listener has none, and counts as empty
abbrev pub text_step : List EventShape → Value-F (List ℕ) (List ℕ) → List ℕ
text_step types (layer.Integer n) = signed_decimal n
text_step types (layer.Boolean b) = truth_text b
text_step types (layer.Text bytes) = quoted bytes
text_step types (layer.Sequence texts) = 91 ∷ with_commas texts ++ 93 ∷ []
text_step types (layer.Dictionary texts) = 123 ∷ with_commas texts ++ 125 ∷ []
text_step types (layer.Event n texts) = name_in (slice_get types n) ++ 40 ∷ with_commas texts ++ 41 ∷ []
text_step types (layer.Context slot) = []
text_step types layer.NoContext = []
text_step types (layer.Listener birth) = []

-- a key, a colon and its value
abbrev pub pair_step : Pair-F (List ℕ) (List ℕ) → List ℕ
pair_step pair = pair.key ++ 58 ∷ pair.value

-- a value as text, over these event types
abbrev pub text_in : List EventShape → Value → List ℕ
text_in types = fold-Value (List ℕ) (List ℕ) (text_step types) pair_step

-- a pair as text
abbrev pub pair_text : List EventShape → Pair → List ℕ
pair_text types = fold-Pair (List ℕ) (List ℕ) (text_step types) pair_step
