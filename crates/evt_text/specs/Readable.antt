-- Which values are read again from their texts.
use Rattle.evt_text.specs.Common.{ℕ, ℤ, pos, negsuc, List, length, AllByRecursion, EventShape, Value, Pair, Result, Ok, Err, Form, SequenceForm, DictionaryForm, ContextForm, ListenerForm}
use Rattle.std.specs.Prelude.{◌≡◌, ◌<◌, ◌≤◌, ◌^◌, ◌++◌, ◌+◌, ◌⊎◌}
use Rattle.epl_values.specs.Order.{KeysAscend}
use Rattle.epl_values.specs.declared.shape.Shape.TheVariants as shape
use Rattle.epl_values.specs.declared.value.Value.{Value-F, every-Value}
use Rattle.epl_values.specs.declared.value.Value.TheOpen as layer
use Rattle.epl_values.specs.declared.value.Pair.{Pair-F}
use Rattle.event_types.specs.Types.{form_of}
use Rattle.evt_text.specs.Spelling.{FindsValue}
use Rattle.evt_text.specs.declared.fault.TextFault.{TextFault}
use Rattle.evt_text.specs.declared.fault.TextFault.TheVariants as fault

-- no context and no listener stands in a form
abbrev pub HasText : Form → Type 0
HasText (SequenceForm element) = HasText element
HasText (DictionaryForm key item) = HasText key × HasText item
HasText ContextForm = ⊥
HasText ListenerForm = ⊥
HasText form = Unit {0}

-- events of these types can stand in event files: no field holds a context or a listener
abbrev pub HaveTexts : List EventShape → Type 0
HaveTexts types = AllByRecursion (λ event. AllByRecursion (λ field. HasText (form_of field.shape)) event.fields) types

-- from -2^63 up to below 2^63
abbrev pub IsOf64Bits : ℤ → Type 0
IsOf64Bits (pos n) = n < 2 ^ 63
IsOf64Bits (negsuc n) = n < 2 ^ 63

-- an integer of 64 bits, a string that isn't too long, a dictionary whose keys ascend; of others nothing is asked
abbrev pub IsWithinLimits : Value-F Value Pair → Type 0
IsWithinLimits (layer.Integer n) = IsOf64Bits n
IsWithinLimits (layer.Text bytes) = length bytes ≤ 1048576
IsWithinLimits (layer.Dictionary pairs) = KeysAscend pairs
IsWithinLimits v = Unit {0}

abbrev pub NothingAsked : Pair-F Value Pair → Type 0
NothingAsked pair = Unit {0}

-- each integer, string and dictionary in a value is so
unfoldable pub IsReadable : Value → Type 0
IsReadable = every-Value IsWithinLimits NothingAsked

-- whatever the answer at the end of `before` is, it is this value and the place behind its text, unless memory ran out
abbrev pub IsReadAgain : List EventShape → ℕ → Value → List ℕ → List ℕ → List ℕ → Type 0
IsReadAgain types n x before text rest = (r : Result (Value × ℕ) TextFault) → FindsValue types (shape.Event n) (before ++ (text ++ rest)) (length before) r
    → (r ≡ Ok (x, length before + length text)) ⊎ (r ≡ Err fault.Memory)
