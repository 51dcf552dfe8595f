-- Decimal numbers.
use Rattle.std.specs.Prelude.{ℕ, ◌+◌, ◌-◌, ◌*◌, List, [], ◌∷◌, Bool, ◌&&◌, nat_le, if◌then◌else◌, Option, Some, None}
use Rattle.std.specs.List.{list_all}

abbrev pub is_digit : ℕ → Bool
is_digit b = nat_le 48 b && nat_le b 57

-- what digits count, behind a number
abbrev pub number_behind : ℕ → List ℕ → ℕ
number_behind n [] = n
number_behind n (b ∷ bs) = number_behind (10 * n + (b - 48)) bs

-- the number that digits write, if it is at most `most`
abbrev pub number_in : ℕ → List ℕ → Option ℕ
number_in most word = if list_all is_digit word && nat_le (number_behind 0 word) most then Some (number_behind 0 word) else None
