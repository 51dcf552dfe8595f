-- What the steps of reading words give.
use Rattle.std.specs.Prelude.{◌≡◌, ◌<◌, ◌≤◌, ℕ, List, ◌∷◌, length, Bool, if◌then◌else◌, Option, Some, None}
use Rattle.record_book.specs.declared.record.Settings.{Settings}
use Rattle.run_words.specs.Words.{Given, Named, cut, gives, no_options, flag_of, value_of}

-- an option of this name, with this value
abbrev pub given_of : List ℕ → Option (List ℕ) → Given
given_of name value = record { name = name; value = value }

-- these files and settings
abbrev pub named_as : List ℕ → List (List ℕ) → Settings → Bool → Option (List ℕ) → Named
named_as events programs settings serial schedule = record { events = events; programs = programs; settings = settings; serial = serial; schedule = schedule }

-- the first option is taken off, or there is none
abbrev pub TakesOff : List (List ℕ) → List (List ℕ) → Option Given → Type 0
TakesOff old new None = (cut old ≡ no_options old) × (new ≡ old)
TakesOff old new (Some g) = (cut old ≡ gives g.name g.value (cut new)) × (length new < length old)

-- what was found in front of further values of an option
abbrev pub value_behind : Option (List ℕ) → List (Option (List ℕ)) → Option (Option (List ℕ))
value_behind None values = value_of values
value_behind (Some value) values = value_of (Some value ∷ values)

-- the same of an option without a value
abbrev pub flag_behind : Bool → List (Option (List ℕ)) → Option Bool
flag_behind b values = if b then flag_of (None ∷ values) else flag_of values

-- settings within their ranges
pub record InRange (s : Settings) : Type 0 where
  pub fuel : (1 ≤ s.fuel) × (s.fuel ≤ 20000000)
  pub contexts : (1 ≤ s.contexts) × (s.contexts ≤ 32)
  pub mailbox : (1 ≤ s.mailbox) × (s.mailbox ≤ 65536)
