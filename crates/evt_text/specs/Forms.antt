-- Names of event types, and the types that can be read in event files.
use Rattle.std.specs.Prelude.{◌≤◌, ◌∷◌, ◌==◌, ◌&&◌, ◌||◌}
use Rattle.evt_text.specs.Common.{ℕ, List, [], length, Bool, IsTrue, nat_le, AllByRecursion, EventShape}
use Rattle.event_types.specs.Types.{HasDistinctNames, HasKnownFields, HasNoCycle}

-- `A` to `Z`, `a` to `z` and `_`
abbrev pub is_letter : ℕ → Bool
is_letter b = nat_le 65 b && nat_le b 90 || nat_le 97 b && nat_le b 122 || b == 95

-- `0` to `9`
abbrev pub is_digit : ℕ → Bool
is_digit b = nat_le 48 b && nat_le b 57

-- a letter, then letters and digits
abbrev pub IsName : List ℕ → Type 0
IsName [] = ⊥
IsName (b ∷ bs) = IsTrue (is_letter b) × AllByRecursion (λ c. IsTrue (is_letter c || is_digit c)) bs

-- the name of each type is spelled as one
abbrev pub HasNames : List EventShape → Type 0
HasNames types = AllByRecursion (λ event. IsName event.name) types

-- the event types of a program: numbers of 16 bits name them; they have names, each its own; their fields are over them; none contains itself
pub record AreEventTypes (types : List EventShape) : Type 0 where
  pub few : length types ≤ 65536
  pub names : HasNames types
  pub distinct : HasDistinctNames types
  pub fields : HasKnownFields types
  pub no_cycle : HasNoCycle types
