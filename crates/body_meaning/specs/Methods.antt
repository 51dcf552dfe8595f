-- What methods give, what they charge, and what those that change their object make of it.
use Rattle.body_meaning.specs.Common.{ℕ, ℤ, pos, negsuc, Bool, true, false, List, [], length, map, remove, nat_lt, Option, Some, None, Result, Ok, Err, EventShape, Value, Value-F, out-Value, roll-Value, Pair, out-Pair, order_of, Method, cost_of, Fault}
use Rattle.std.specs.Prelude.{◌+◌, ◌==◌, ◌∷◌, ◌++◌, if◌then◌else◌, is_some}
use Rattle.std.specs.List.{position}
use Rattle.epl_values.specs.declared.value.Value.TheOpen as layer
use Rattle.epl_values.specs.declared.value.Value.TheVariants as value
use Rattle.typed_program.specs.declared.expression.Method.TheVariants as method
use Rattle.value_rules.specs.Texts.{text_in}
use Rattle.action_host.specs.declared.host.Fault.TheVariants as fault
use Rattle.action_host.specs.declared.host.Effect.TheVariants as effect
use Rattle.body_meaning.specs.Runs.{M, ◌>>=◌, ◌>>◌, pure, charge, perform, given}
use Rattle.body_meaning.specs.Values.{integer_of, items_of, pairs_of, birth_of, letters_of, is_equal, natural, bounded, characters, substring}
use Rattle.body_meaning.specs.Paths.{at_key, with_entry, without_entry, or_none}

-- the arguments of a method
abbrev pub first : List Value → Value
first [] = value.NoContext
first (v ∷ vs) = v

abbrev pub second : List Value → Value
second [] = value.NoContext
second (v ∷ vs) = first vs

-- ---- texts, which are charged before their length is tested

unfoldable pub text_charged : List ℕ → M Value
text_charged text = charge (cost_of (value.Text text)) >> given (bounded text)

-- a value that costs what it is
unfoldable pub value_charged : Value → M Value
value_charged v = charge (cost_of v) >> pure v

-- ---- reading

abbrev pub place_number : Option ℕ → ℤ
place_number None = negsuc 0
place_number (Some n) = pos n

-- the first place of a value, or -1
abbrev pub place_of : Value → Value → Value
place_of x v = value.Integer (place_number (position (λ y. is_equal (order_of y x)) (items_of v)))

abbrev pub size_in : Value-F Value Pair → ℕ
size_in (layer.Sequence items) = length items
size_in (layer.Dictionary pairs) = length pairs
size_in v = 0

abbrev pub size_of : Value → Value
size_of v = value.Integer (pos (size_in (out-Value v)))

abbrev pub keys_of : Value → Value
keys_of v = value.Sequence (map (λ p. (out-Pair p).key) (pairs_of v))

-- the bounds are tested before the charge
unfoldable pub substring_charged : Value → List Value → M Value
substring_charged v arguments = given (substring v (first arguments) (second arguments)) >>= (λ text. value_charged (value.Text text))

unfoldable pub place_charged : Value → List Value → M Value
place_charged v arguments = charge (cost_of v) >> pure (place_of (first arguments) v)

unfoldable pub quit : Value → M Value
quit v = perform (effect.Quit (birth_of v))

-- ---- changing

abbrev pub removed_place : List Value → Option ℕ → Result Value Fault
removed_place items None = Err fault.IndexOutOfRange
removed_place items (Some n) = if nat_lt n (length items) then Ok (value.Sequence (remove items n)) else Err fault.IndexOutOfRange

abbrev pub removed_key : List Pair → Value → Result Value Fault
removed_key pairs key = if is_some (at_key key pairs) then Ok (value.Dictionary (without_entry key pairs)) else Err fault.MissingKey

abbrev pub removed_in : Value → Value-F Value Pair → Result Value Fault
removed_in x (layer.Sequence items) = removed_place items (natural (integer_of x))
removed_in x (layer.Dictionary pairs) = removed_key pairs x
removed_in x v = Ok (roll-Value v)

abbrev pub appended_in : Value → Value-F Value Pair → Value
appended_in x (layer.Sequence items) = value.Sequence (items ++ x ∷ [])
appended_in x v = roll-Value v

abbrev pub cleared_in : Value-F Value Pair → Value
cleared_in (layer.Sequence items) = value.Sequence []
cleared_in (layer.Dictionary pairs) = value.Dictionary []
cleared_in v = roll-Value v

abbrev pub added_in : Value → Value → Value-F Value Pair → Value
added_in key x (layer.Dictionary pairs) = value.Dictionary (with_entry key x pairs)
added_in key x v = roll-Value v

-- what a method makes of its object
abbrev pub changed_by : Method → List Value → Value → Result Value Fault
changed_by method.Append arguments v = Ok (appended_in (first arguments) (out-Value v))
changed_by method.Remove arguments v = removed_in (first arguments) (out-Value v)
changed_by method.Clear arguments v = Ok (cleared_in (out-Value v))
changed_by method.Add arguments v = Ok (added_in (first arguments) (second arguments) (out-Value v))
changed_by m arguments v = Ok v

-- a method that changes a value which no variable holds: nothing of it is seen but its fault
unfoldable pub change_lost : Method → List Value → Value → M Value
change_lost m arguments v = given (changed_by m arguments v) >> pure value.NoContext

module _ (types : List EventShape) where
  -- a method of a value with these arguments
  abbrev pub called : Method → Value → List Value → M Value
  called method.ToString v arguments = text_charged (text_in types v)
  called method.Length v arguments = pure (value.Integer (pos (characters (letters_of v))))
  called method.Substring v arguments = substring_charged v arguments
  called method.Size v arguments = pure (size_of v)
  called method.IndexOf v arguments = place_charged v arguments
  called method.HasKey v arguments = pure (value.Boolean (is_some (at_key (first arguments) (pairs_of v))))
  called method.Keys v arguments = value_charged (keys_of v)
  called method.Clone v arguments = value_charged v
  called method.Quit v arguments = quit v
  called m v arguments = change_lost m arguments v
