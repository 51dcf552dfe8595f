-- What is done to the value of a variable at the end of a path.
use Rattle.std.specs.Prelude.{ℕ, List, Result, Ok, slice_get, slice_set}
use Rattle.epl_values.specs.declared.value.Value.{Value}
use Rattle.action_host.specs.declared.host.Fault.{Fault}
use Rattle.body_meaning.specs.declared.run.Move.{Move}
use Rattle.body_meaning.specs.Methods.{changed_by}
use Rattle.body_meaning.specs.Paths.{altered, or_none, stored, then_try}
use Rattle.value_steps.specs.Orderly.{IsOrderly, AreOrderly}
use Rattle.variable_changes.specs.declared.variables.Change.{Change}
use Rattle.variable_changes.specs.declared.variables.Change.TheVariants as change

-- another value is stored there, or a method changes what is there
abbrev pub does_at : List Move → Change → Value → Result Value Fault
does_at moves (change.Store part) = stored moves part
does_at moves (change.Call method arguments) = altered moves (changed_by method arguments)

-- what it brings is in order
abbrev pub IsOrderlyChange : Change → Type 0
IsOrderlyChange (change.Store part) = IsOrderly part
IsOrderlyChange (change.Call method arguments) = AreOrderly arguments

-- values with one changed by a function; one that isn't there counts as no context, and stays away
abbrev pub value_changed : List Value → ℕ → (Value → Result Value Fault) → Result (List Value) Fault
value_changed values n f = then_try (f (or_none (slice_get values n))) (λ v. Ok (slice_set values n v))
