-- What a statement hands on is in order.
use Rattle.std.specs.Prelude.{Option, Some, None}
use Rattle.epl_values.specs.declared.value.Value.{Value}
use Rattle.body_meaning.specs.declared.run.Flow.{Flow}
use Rattle.body_meaning.specs.declared.run.Flow.TheVariants.{Next, Broke, Continued, Returned}
use Rattle.value_steps.specs.Orderly.{IsOrderly}

abbrev pub IsOrderlyAnswer : Option Value → Type 0
IsOrderlyAnswer None = Unit {0}
IsOrderlyAnswer (Some v) = IsOrderly v

-- a value that is returned has its dictionaries in order
abbrev pub IsOrderlyFlow : Flow → Type 0
IsOrderlyFlow (Returned v) = IsOrderlyAnswer v
IsOrderlyFlow Next = Unit {0}
IsOrderlyFlow Broke = Unit {0}
IsOrderlyFlow Continued = Unit {0}
