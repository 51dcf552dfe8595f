-- Where the key of an entry stands, or would stand, in a dictionary.
use Rattle.value_steps.specs.Common.{ℕ, Bool, List, [], Result, Ok, Err, Value, Pair}
use Rattle.std.specs.Prelude.{◌∷◌, if◌then◌else◌, zero, suc}
use Rattle.epl_values.specs.declared.value.Pair.{out-Pair}
use Rattle.epl_values.specs.Order.{order_of}
use Rattle.body_meaning.specs.Values.{is_less}
use Rattle.body_meaning.specs.Paths.{by_order}

-- one place further on
abbrev pub behind : Result ℕ ℕ → Result ℕ ℕ
behind (Ok n) = Ok (suc n)
behind (Err n) = Err (suc n)

-- the place of a key, or that where it would be put
abbrev pub place_in : Value → List Pair → Result ℕ ℕ
place_in key [] = Err 0
place_in key (pair ∷ pairs) = by_order (order_of (out-Pair pair).key key) (behind (place_in key pairs)) (Ok 0) (Err 0)

-- whether the key of an entry is lesser
abbrev pub is_before : Value → Pair → Bool
is_before key pair = is_less (order_of (out-Pair pair).key key)

-- how many entries in front have a lesser key
abbrev pub count_before : Value → List Pair → ℕ
count_before key [] = 0
count_before key (pair ∷ pairs) = if is_before key pair then suc (count_before key pairs) else 0
