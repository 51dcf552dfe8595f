-- The value that a variable or field has at first.
use Rattle.value_rules.specs.Common.{ℕ, List, [], length, false, map, slice_get, Shape, Shape-F, EventShape, Value}
use Rattle.std.specs.Prelude.{zero, suc, pos}
use Rattle.epl_values.specs.declared.shape.Shape.{fold-Shape}
use Rattle.epl_values.specs.declared.shape.Shape.TheOpen as layer
use Rattle.epl_values.specs.declared.value.Value.TheVariants as value
use Rattle.event_types.specs.Types.{fields_of}

-- 0, false, empty texts and collections, no context, the empty listener, and what events give
abbrev pub default_step : (ℕ → Value) → Shape-F Value → Value
default_step event layer.Integer = value.Integer (pos 0)
default_step event layer.Boolean = value.Boolean false
default_step event layer.Text = value.Text []
default_step event (layer.Sequence element) = value.Sequence []
default_step event (layer.Dictionary key item) = value.Dictionary []
default_step event (layer.Event n) = event n
default_step event layer.Context = value.NoContext
default_step event layer.Listener = value.Listener 0

-- the default of a shape, given that of each event type
abbrev pub default_by : (ℕ → Value) → Shape → Value
default_by event = fold-Shape Value (default_step event)

-- an event of defaults, with events in it at most so deep; past that, or without such a type, it has no fields
abbrev pub default_event : ℕ → List EventShape → ℕ → Value
default_event zero types n = value.Event n []
default_event (suc depth) types n = value.Event n (map (λ field. default_by (default_event depth types) field.shape) (fields_of (slice_get types n)))

-- the default of a shape over these event types, which nest at most as deep as there are any
abbrev pub default_of : List EventShape → Shape → Value
default_of types = default_by (default_event (length types) types)
