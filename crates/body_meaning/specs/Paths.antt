-- Parts of values: fields, elements and entries; and variables with a part that is changed.
use Rattle.body_meaning.specs.Common.{ℕ, ℤ, List, [], map, Option, Some, None, slice_get, remove, Result, Ok, Err, Bool, true, false, Ordering, Less, Equal, Greater, Value, Value-F, out-Value, roll-Value, Pair, out-Pair, roll-Pair, order_of, Variable, Fault}
use Rattle.std.specs.Prelude.{◌+◌, ◌∷◌, ◌++◌, if◌then◌else◌, slice_set}
use Rattle.std.specs.Option.{option_and_then}
use Rattle.epl_values.specs.declared.value.Value.TheOpen as layer
use Rattle.epl_values.specs.declared.value.Value.TheVariants as value
use Rattle.typed_program.specs.declared.statement.Variable.TheVariants as variable
use Rattle.action_host.specs.declared.host.Fault.TheVariants as fault
use Rattle.body_meaning.specs.declared.run.Frame.{Frame}
use Rattle.body_meaning.specs.declared.run.Move.{Move}
use Rattle.body_meaning.specs.declared.run.Move.TheVariants as move
use Rattle.body_meaning.specs.Values.{is_equal, is_less, natural}

abbrev pub then_try : {A B : Type 0} → Result A Fault → (A → Result B Fault) → Result B Fault
then_try (Ok x) f = f x
then_try (Err e) f = Err e

abbrev pub or_fault : {A : Type 0} → Fault → Option A → Result A Fault
or_fault e None = Err e
or_fault e (Some x) = Ok x

-- ---- dictionaries

abbrev pub is_key : Value → Pair → Bool
is_key key pair = is_equal (order_of (out-Pair pair).key key)

abbrev pub entry_value : Pair → Value
entry_value pair = (out-Pair pair).value

abbrev pub entry : Value → Value → Pair
entry key v = roll-Pair record { key = key; value = v }

-- the value at a key
abbrev pub at_key : Value → List Pair → Option Value
at_key key [] = None
at_key key (pair ∷ pairs) = if is_key key pair then Some (entry_value pair) else at_key key pairs

-- what stands for less, for equal and for greater
abbrev pub by_order : {A : Type 0} → Ordering → A → A → A → A
by_order Less less equal greater = less
by_order Equal less equal greater = equal
by_order Greater less equal greater = greater

-- with a value at a key: in its place if the key is there, and else where the keys still ascend
abbrev pub with_entry : Value → Value → List Pair → List Pair
with_entry key v [] = entry key v ∷ []
with_entry key v (pair ∷ pairs) = by_order (order_of (out-Pair pair).key key) (pair ∷ with_entry key v pairs) (entry (out-Pair pair).key v ∷ pairs) (entry key v ∷ pair ∷ pairs)

abbrev pub without_entry : Value → List Pair → List Pair
without_entry key [] = []
without_entry key (pair ∷ pairs) = if is_key key pair then pairs else pair ∷ without_entry key pairs

-- ---- parts

abbrev pub at_place : List Value → ℤ → Option Value
at_place items at = option_and_then (slice_get items) (natural at)

abbrev pub set_at : List Value → Option ℕ → Value → List Value
set_at items None part = items
set_at items (Some n) part = slice_set items n part

abbrev pub set_place : List Value → ℤ → Value → List Value
set_place items at part = set_at items (natural at) part

-- the part of a value
abbrev pub part_in : Move → Value-F Value Pair → Result Value Fault
part_in (move.Field n) (layer.Event e fields) = or_fault fault.IndexOutOfRange (slice_get fields n)
part_in (move.Item at) (layer.Sequence items) = or_fault fault.IndexOutOfRange (at_place items at)
part_in (move.Key key) (layer.Dictionary pairs) = or_fault fault.MissingKey (at_key key pairs)
part_in m v = Err fault.IndexOutOfRange

abbrev pub part : Move → Value → Result Value Fault
part m v = part_in m (out-Value v)

-- the value with another part there
abbrev pub with_part_in : Move → Value-F Value Pair → Value → Value
with_part_in (move.Field n) (layer.Event e fields) x = value.Event e (slice_set fields n x)
with_part_in (move.Item at) (layer.Sequence items) x = value.Sequence (set_place items at x)
with_part_in (move.Key key) (layer.Dictionary pairs) x = value.Dictionary (with_entry key x pairs)
with_part_in m v x = roll-Value v

abbrev pub with_part : Move → Value → Value → Value
with_part m v x = with_part_in m (out-Value v) x

-- a value whose part at the end of a path is changed; each part on the way has to be there
abbrev pub altered : List Move → (Value → Result Value Fault) → Value → Result Value Fault
altered [] f v = f v
altered (m ∷ ms) f v = then_try (part m v) (λ x. then_try (altered ms f x) (λ y. Ok (with_part m v y)))

-- a dictionary takes a key that isn't there yet; elsewhere what is replaced has to be there
abbrev pub put_in : Move → Value → Value-F Value Pair → Result Value Fault
put_in (move.Key key) x (layer.Dictionary pairs) = Ok (value.Dictionary (with_entry key x pairs))
put_in m x v = then_try (part_in m v) (λ old. Ok (with_part_in m v x))

abbrev pub put : Move → Value → Value → Result Value Fault
put m x v = put_in m x (out-Value v)

-- a value with another value at the end of a path
abbrev pub stored : List Move → Value → Value → Result Value Fault
stored [] x v = Ok x
stored (m ∷ []) x v = put m x v
stored (m ∷ n ∷ ms) x v = then_try (part m v) (λ y. then_try (stored (n ∷ ms) x y) (λ z. Ok (with_part m v z)))

-- ---- variables

-- a variable that isn't there counts as no context
abbrev pub or_none : Option Value → Value
or_none None = value.NoContext
or_none (Some v) = v

abbrev pub variable_in : Variable → Frame → Value
variable_in (variable.Global n) frame = or_none (slice_get frame.globals n)
variable_in (variable.Local n) frame = or_none (slice_get frame.locals n)

abbrev pub with_variable : Variable → Value → Frame → Frame
with_variable (variable.Global n) v frame = record frame { globals = slice_set frame.globals n v }
with_variable (variable.Local n) v frame = record frame { locals = slice_set frame.locals n v }

-- the variables with one changed by a function
abbrev pub change_variable : Variable → (Value → Result Value Fault) → Frame → Result Frame Fault
change_variable x f frame = then_try (f (variable_in x frame)) (λ v. Ok (with_variable x v frame))

abbrev pub store : Variable → List Move → Value → Frame → Result Frame Fault
store x moves v = change_variable x (stored moves v)

abbrev pub alter : Variable → List Move → (Value → Result Value Fault) → Frame → Result Frame Fault
alter x moves f = change_variable x (altered moves f)

abbrev pub set_local : ℕ → Value → Frame → Result Frame Fault
set_local n v frame = Ok (with_variable (variable.Local n) v frame)
