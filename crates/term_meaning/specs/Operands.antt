-- The operands of constraints, and durations.
use Rattle.term_meaning.specs.Common.{ℕ, ℤ, List, [], Option, Some, None, slice_get, Duration, EventShape, Value, Value-F, out-Value, Site, Operand, Computed, Binding}
use Rattle.std.specs.Prelude.{◌∷◌, ◌==◌, ◌+ℤ◌, ◌-ℤ◌, ◌*ℤ◌, pos, if◌then◌else◌}
use Rattle.std.specs.Option.{option_and_then, option_map}
use Rattle.epl_values.specs.declared.value.Value.TheOpen as value
use Rattle.typed_program.specs.declared.program.Local.{Local}
use Rattle.typed_program.specs.declared.term.Operand.TheVariants as operand
use Rattle.value_rules.specs.Defaults.{default_of}
use Rattle.term_meaning.specs.declared.leaf.Computed.TheVariants.{Number, Truth, Letters, Missing}

-- what an event expression is started over: the event types, its site, the site's operands as they were at the `on`, and the time
pub record Setting : Type 0 where
  pub types : List EventShape
  pub site : Site
  pub operands : List Value
  pub now : ℤ

-- ---- values

-- the event that a name is bound to
abbrev pub event_of : ℕ → List Binding → Option Value
event_of name [] = None
event_of name (b ∷ bindings) = if b.local == name then Some b.event else event_of name bindings

-- the default value of the type of a bound name
abbrev pub default_at : List EventShape → List Local → ℕ → Option Value
default_at types bound name = option_map (λ local. default_of types local.shape) (slice_get bound name)

abbrev pub or_else : Option Value → Option Value → Option Value
or_else (Some v) other = Some v
or_else None other = other

-- the event of a name, or the default where it isn't bound
abbrev pub named : Setting → List Binding → ℕ → Option Value
named s seen name = or_else (event_of name seen) (default_at s.types s.site.bound name)

abbrev pub field_in : ℕ → Value-F Value Rattle.epl_values.specs.declared.value.Pair.Pair → Option Value
field_in n (value.Event event fields) = slice_get fields n
field_in n v = None

abbrev pub field_of : ℕ → Value → Option Value
field_of n v = field_in n (out-Value v)

-- what fields reach from a value
abbrev pub along : List ℕ → Option Value → Option Value
along [] v = v
along (field ∷ fields) v = along fields (option_and_then (field_of field) v)

-- ---- operands

abbrev pub computed_in : Value-F Value Rattle.epl_values.specs.declared.value.Pair.Pair → Computed
computed_in (value.Integer n) = Number n
computed_in (value.Boolean b) = Truth b
computed_in (value.Text text) = Letters text
computed_in v = Missing

abbrev pub computed : Option Value → Computed
computed None = Missing
computed (Some v) = computed_in (out-Value v)

-- the operand with this place
abbrev pub given : Setting → ℕ → Computed
given s n = computed (slice_get s.operands n)

abbrev pub at_path : Setting → List Binding → ℕ → List ℕ → Computed
at_path s seen name fields = computed (along fields (named s seen name))

-- whole numbers, without overflow
abbrev pub plus : Computed → Computed → Computed
plus (Number a) (Number b) = Number (a +ℤ b)
plus a b = Missing

abbrev pub minus : Computed → Computed → Computed
minus (Number a) (Number b) = Number (a -ℤ b)
minus a b = Missing

-- an operand as it is when its template becomes active
abbrev pub operand_value : Setting → List Binding → Operand → Computed
operand_value s seen (operand.Given n) = given s n
operand_value s seen (operand.Bound name fields) = at_path s seen name fields
operand_value s seen (operand.BoundPlus name fields n) = plus (at_path s seen name fields) (given s n)
operand_value s seen (operand.BoundMinus name fields n) = minus (at_path s seen name fields) (given s n)

-- ---- durations

abbrev pub number_of : Computed → ℤ
number_of (Number n) = n
number_of c = pos 0

-- a duration in tenths of a second
abbrev pub duration : Setting → Duration → ℤ
duration s d = if d.tenths then number_of (given s d.operand) else number_of (given s d.operand) *ℤ pos 10

-- the time that lies a duration from now
abbrev pub time_after : Setting → Duration → ℤ
time_after s d = s.now +ℤ duration s d
