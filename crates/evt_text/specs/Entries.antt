-- The entries of a dictionary: where a key stands, and what putting entries in makes.
use Rattle.evt_text.specs.Common.{ℕ, Bool, true, false, List, [], Result, Ok, Err, Value, Pair, suc}
use Rattle.std.specs.Prelude.{◌∷◌, if◌then◌else◌}
use Rattle.std.specs.declared.cmp.Ordering.{Ordering}
use Rattle.std.specs.declared.cmp.Ordering.TheVariants.{Less, Equal, Greater}
use Rattle.epl_values.specs.declared.value.Pair.{out-Pair, roll-Pair}
use Rattle.epl_values.specs.Order.{order_of}

-- an entry of this key and this value
abbrev pub entry : Value → Value → Pair
entry key v = roll-Pair record { key = key; value = v }

abbrev pub is_less : Ordering → Bool
is_less Less = true
is_less Equal = false
is_less Greater = false

abbrev pub is_equal : Ordering → Bool
is_equal Less = false
is_equal Equal = true
is_equal Greater = false

-- whether the key of an entry is lesser
abbrev pub is_before : Value → Pair → Bool
is_before key pair = is_less (order_of (out-Pair pair).key key)

-- whether an entry has the key
abbrev pub is_key : Value → Pair → Bool
is_key key pair = is_equal (order_of (out-Pair pair).key key)

-- how many entries in front have a lesser key
abbrev pub count_before : Value → List Pair → ℕ
count_before key [] = 0
count_before key (pair ∷ pairs) = if is_before key pair then suc (count_before key pairs) else 0

-- what stands for less, for equal and for greater
abbrev pub by_order : {A : Type 0} → Ordering → A → A → A → A
by_order Less less equal greater = less
by_order Equal less equal greater = equal
by_order Greater less equal greater = greater

-- one place further on
abbrev pub behind : Result ℕ ℕ → Result ℕ ℕ
behind (Ok n) = Ok (suc n)
behind (Err n) = Err (suc n)

-- the place of a key, or that where it would be put
abbrev pub place_in : Value → List Pair → Result ℕ ℕ
place_in key [] = Err 0
place_in key (pair ∷ pairs) = by_order (order_of (out-Pair pair).key key) (behind (place_in key pairs)) (Ok 0) (Err 0)

-- with a value at a key: in its place if the key is there, and else where the keys still ascend
abbrev pub with_entry : Value → Value → List Pair → List Pair
with_entry key v [] = entry key v ∷ []
with_entry key v (pair ∷ pairs) = by_order (order_of (out-Pair pair).key key) (pair ∷ with_entry key v pairs) (entry (out-Pair pair).key v ∷ pairs) (entry key v ∷ pair ∷ pairs)

-- with further entries put in, one after the other: a later equal key replaces
abbrev pub with_entries : List Pair → List Pair → List Pair
with_entries pairs [] = pairs
with_entries pairs (one ∷ more) = with_entries (with_entry (out-Pair one).key (out-Pair one).value pairs) more

-- the dictionary that entries make, put in one after the other
abbrev pub entered : List Pair → List Pair
entered pairs = with_entries [] pairs
