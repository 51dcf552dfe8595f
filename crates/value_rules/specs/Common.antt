-- The names that most files here cite, passed on from one place. Declares nothing.
pub use Rattle.std.specs.Prelude.{Bool, List, None, Option, Some, [], false, length, map, slice_get, true, ℕ}
pub use Rattle.epl_values.specs.declared.shape.EventShape.{EventShape}
pub use Rattle.epl_values.specs.declared.shape.Shape.{Shape, Shape-F}
pub use Rattle.epl_values.specs.declared.value.Pair.{Pair, Pair-F, fold-Pair}
pub use Rattle.epl_values.specs.declared.value.Value.{Value, Value-F, fold-Value}
