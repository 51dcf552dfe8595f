-- What a change in place leaves.
use Rattle.value_steps.specs.Common.{ℕ, List, Result, Ok, Err, Bool, Value, Pair, Fault, Move, then_try}
use Rattle.std.specs.Prelude.{◌≡◌, if◌then◌else◌, ℤ, Option, Some, None, is_some, nat_lt, length, remove, slice_get, slice_set}
use Rattle.action_host.specs.declared.host.Fault.TheVariants as fault
use Rattle.body_meaning.specs.Methods.{changed_by}
use Rattle.body_meaning.specs.Paths.{altered, at_key, or_fault, put, with_entry, without_entry}
use Rattle.value_steps.specs.declared.changes.Change.{Change}
use Rattle.value_steps.specs.declared.changes.Change.TheVariants as change
use Rattle.value_steps.specs.declared.trouble.Trouble.{Trouble}
use Rattle.value_steps.specs.declared.trouble.Trouble.TheVariants as trouble

-- the wanted one; or what stood there, with the fault or for want of memory
abbrev pub Leaves : {A : Type 0} → Result (Unit {0}) Trouble → A → A → Result A Fault → Type 0
Leaves (Ok done) new old wanted = wanted ≡ Ok new
Leaves (Err (trouble.Fault fault)) new old wanted = (wanted ≡ Err fault) × (new ≡ old)
Leaves (Err trouble.Memory) new old wanted = new ≡ old

-- what is done to the value at the end of a path
abbrev pub done_by : Change → Value → Result Value Fault
done_by (change.Put to x) v = put to x v
done_by (change.Call method arguments) v = changed_by method arguments v

-- values with another one at a place, which has to be there
abbrev pub with_item : List Value → ℕ → Value → Result (List Value) Fault
with_item items n x = then_try (or_fault fault.IndexOutOfRange (slice_get items n)) (λ old. Ok (slice_set items n x))

-- values without that at a place, which has to be there
abbrev pub without_place : List Value → Option ℕ → Result (List Value) Fault
without_place items None = Err fault.IndexOutOfRange
without_place items (Some n) = if nat_lt n (length items) then Ok (remove items n) else Err fault.IndexOutOfRange

-- entries without that of a key, which has to be there
abbrev pub without_key : List Pair → Value → Result (List Pair) Fault
without_key pairs key = if is_some (at_key key pairs) then Ok (without_entry key pairs) else Err fault.MissingKey

-- the same at a place that may be none
abbrev pub with_place : List Value → Option ℕ → Value → Result (List Value) Fault
with_place items None x = Err fault.IndexOutOfRange
with_place items (Some n) x = with_item items n x

-- values with that at a place changed further along a path
abbrev pub item_altered : List Value → ℕ → List Move → (Value → Result Value Fault) → Result (List Value) Fault
item_altered items n moves f = then_try (or_fault fault.IndexOutOfRange (slice_get items n)) (λ x. then_try (altered moves f x) (λ y. Ok (slice_set items n y)))

-- the same at a place that may be none
abbrev pub place_altered : List Value → Option ℕ → List Move → (Value → Result Value Fault) → Result (List Value) Fault
place_altered items None moves f = Err fault.IndexOutOfRange
place_altered items (Some n) moves f = item_altered items n moves f

-- entries with the value at a key changed further along a path
abbrev pub entry_altered : List Pair → Value → List Move → (Value → Result Value Fault) → Result (List Pair) Fault
entry_altered pairs key moves f = then_try (or_fault fault.MissingKey (at_key key pairs)) (λ x. then_try (altered moves f x) (λ y. Ok (with_entry key y pairs)))
