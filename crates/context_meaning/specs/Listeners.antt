-- Listeners: what they are, and what their callbacks begin with.
use Rattle.context_meaning.specs.Common.{ℕ, List, [], Option, Some, None, Value, Site}
use Rattle.std.specs.Prelude.{◌+◌, ◌∷◌, ◌++◌}
use Rattle.epl_values.specs.declared.shape.EventShape.{EventShape}
use Rattle.typed_program.specs.declared.program.Local.{Local}
use Rattle.value_rules.specs.Defaults.{default_of}
use Rattle.term_meaning.specs.declared.stimulus.Binding.{Binding}
use Rattle.term_meaning.specs.Operands.{event_of}
use Rattle.term_meaning.specs.UnderWay.{UnderWay}

-- A live listener: its birth, which is its number among the listeners of its context, from 1; its instance; its site; the values of
-- the names that its callback takes along; and its event expression, under way.
pub record Listener : Type 0 where
  pub birth : ℕ
  pub instance : ℕ
  pub site : ℕ
  pub captured : List Value
  pub expression : UnderWay

-- ---- what a callback begins with

abbrev pub or_default : Option Value → Value → Value
or_default None other = other
or_default (Some e) other = e

-- the value of the bound name with this place: the event that a completion binds to it, else the default of the name's shape
abbrev pub bound_value : List EventShape → List Binding → ℕ → Local → Value
bound_value types completion n local = or_default (event_of n completion) (default_of types local.shape)

-- the values of bound names, whose places begin with this one
abbrev pub bound_from : List EventShape → List Binding → ℕ → List Local → List Value
bound_from types completion n [] = []
bound_from types completion n (b ∷ bs) = bound_value types completion n b ∷ bound_from types completion (n + 1) bs

-- the names taken along, and then those that are bound
abbrev pub callback_locals : List EventShape → Site → List Value → List Binding → List Value
callback_locals types site captured completion = captured ++ bound_from types completion 0 site.bound
