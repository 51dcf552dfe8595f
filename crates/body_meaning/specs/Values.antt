-- What operators compute from values. A value of another kind than is asked counts as 0, false, or empty.
use Rattle.body_meaning.specs.Common.{ℕ, not, ℤ, pos, negsuc, Bool, true, false, nat_lt, nat_le, List, [], length, map, Option, Some, None, Result, Ok, Err, Ordering, Less, Equal, Greater, Value, Value-F, out-Value, Pair, order_of, Comparison, Operator, Fault}
use Rattle.std.specs.Prelude.{◌+◌, ◌-◌, ◌==◌, if◌then◌else◌, ◌∷◌, ◌++◌, ◌^◌, ◌&&◌, ◌||◌, neg_ℤ, ◌+ℤ◌, ◌-ℤ◌, ◌*ℤ◌, int_le, int_div, int_rem}
use Rattle.epl_values.specs.declared.value.Value.TheOpen as layer
use Rattle.epl_values.specs.declared.value.Value.TheVariants as value
use Rattle.epl_tree.specs.declared.expression.Comparison.TheVariants as comparison
use Rattle.epl_tree.specs.declared.expression.Operator.TheVariants as operator
use Rattle.action_host.specs.declared.host.Fault.TheVariants as fault

-- ---- what is in a value

abbrev pub integer_in : Value-F Value Pair → ℤ
integer_in (layer.Integer n) = n
integer_in v = pos 0

abbrev pub truth_in : Value-F Value Pair → Bool
truth_in (layer.Boolean b) = b
truth_in v = false

abbrev pub letters_in : Value-F Value Pair → List ℕ
letters_in (layer.Text t) = t
letters_in v = []

abbrev pub items_in : Value-F Value Pair → List Value
items_in (layer.Sequence items) = items
items_in v = []

abbrev pub pairs_in : Value-F Value Pair → List Pair
pairs_in (layer.Dictionary pairs) = pairs
pairs_in v = []

abbrev pub fields_in : Value-F Value Pair → List Value
fields_in (layer.Event n fields) = fields
fields_in v = []

abbrev pub birth_in : Value-F Value Pair → ℕ
birth_in (layer.Listener birth) = birth
birth_in v = 0

abbrev pub is_text_in : Value-F Value Pair → Bool
is_text_in (layer.Text t) = true
is_text_in v = false

abbrev pub integer_of : Value → ℤ
integer_of v = integer_in (out-Value v)

abbrev pub truth_of : Value → Bool
truth_of v = truth_in (out-Value v)

abbrev pub letters_of : Value → List ℕ
letters_of v = letters_in (out-Value v)

abbrev pub items_of : Value → List Value
items_of v = items_in (out-Value v)

abbrev pub pairs_of : Value → List Pair
pairs_of v = pairs_in (out-Value v)

abbrev pub birth_of : Value → ℕ
birth_of v = birth_in (out-Value v)

abbrev pub is_text : Value → Bool
is_text v = is_text_in (out-Value v)

-- ---- integers

-- 64 bits
abbrev pub fits : ℤ → Bool
fits z = int_le (negsuc (2 ^ 63 - 1)) z && int_le z (pos (2 ^ 63 - 1))

abbrev pub fitting : ℤ → Result ℤ Fault
fitting z = if fits z then Ok z else Err fault.Overflow

abbrev pub is_zero : ℤ → Bool
is_zero z = int_le z (pos 0) && int_le (pos 0) z

-- `/` truncates toward zero, and `%` has the sign of the dividend
abbrev pub arithmetic : Operator → ℤ → ℤ → Result ℤ Fault
arithmetic operator.Add a b = fitting (a +ℤ b)
arithmetic operator.Subtract a b = fitting (a -ℤ b)
arithmetic operator.Multiply a b = fitting (a *ℤ b)
arithmetic operator.Divide a b = if is_zero b then Err fault.DivisionByZero else fitting (int_div a b)
arithmetic operator.Remainder a b = if is_zero b then Err fault.DivisionByZero else fitting (int_rem a b)

abbrev pub integer_result : Result ℤ Fault → Result Value Fault
integer_result (Ok z) = Ok (value.Integer z)
integer_result (Err e) = Err e

abbrev pub calculated : Operator → Value → Value → Result Value Fault
calculated o a b = integer_result (arithmetic o (integer_of a) (integer_of b))

abbrev pub negated : Value → Result Value Fault
negated a = integer_result (fitting (neg_ℤ (integer_of a)))

-- ---- truths and orders

abbrev pub is_less : Ordering → Bool
is_less Less = true
is_less o = false

abbrev pub is_equal : Ordering → Bool
is_equal Equal = true
is_equal o = false

abbrev pub is_greater : Ordering → Bool
is_greater Greater = true
is_greater o = false

abbrev pub holds : Comparison → Ordering → Bool
holds comparison.Equal o = is_equal o
holds comparison.NotEqual o = not (is_equal o)
holds comparison.Less o = is_less o
holds comparison.LessEqual o = not (is_greater o)
holds comparison.Greater o = is_greater o
holds comparison.GreaterEqual o = not (is_less o)

abbrev pub compared : Comparison → Value → Value → Value
compared c a b = value.Boolean (holds c (order_of a b))

abbrev pub differ : Bool → Bool → Bool
differ true b = not b
differ false b = b

-- ---- texts

-- at most 1,048,576 bytes
abbrev pub bounded : List ℕ → Result Value Fault
bounded text = if nat_le (length text) 1048576 then Ok (value.Text text) else Err fault.TextTooLong

-- a byte that isn't the first of its character
abbrev pub goes_on : ℕ → Bool
goes_on byte = nat_le 128 byte && nat_lt byte 192

-- how many characters there are
abbrev pub characters : List ℕ → ℕ
characters [] = 0
characters (byte ∷ bytes) = (if goes_on byte then 0 else 1) + characters bytes

-- the characters from one place on: a byte goes on with the character before it
abbrev pub from_character : ℕ → List ℕ → List ℕ
from_character n [] = []
from_character n (byte ∷ bytes) = if goes_on byte then from_character n bytes else (if n == 0 then byte ∷ bytes else from_character (n - 1) bytes)

-- the characters up to before a place
abbrev pub before_character : ℕ → List ℕ → List ℕ
before_character n [] = []
before_character n (byte ∷ bytes) = if goes_on byte then byte ∷ before_character n bytes else (if n == 0 then [] else byte ∷ before_character (n - 1) bytes)

abbrev pub natural : ℤ → Option ℕ
natural (pos n) = Some n
natural (negsuc n) = None

-- the characters from i up to before j
abbrev pub part_of : List ℕ → ℕ → ℕ → Result (List ℕ) Fault
part_of text i j = if nat_le i j && nat_le j (characters text) then Ok (from_character i (before_character j text)) else Err fault.IndexOutOfRange

abbrev pub part_at : List ℕ → Option ℕ → Option ℕ → Result (List ℕ) Fault
part_at text (Some i) (Some j) = part_of text i j
part_at text i j = Err fault.IndexOutOfRange

abbrev pub substring : Value → Value → Value → Result (List ℕ) Fault
substring text i j = part_at (letters_of text) (natural (integer_of i)) (natural (integer_of j))
