-- The names that most files here cite, passed on from one place. Declares nothing.
pub use Rattle.std.specs.List.{list_all, list_any}
pub use Rattle.std.specs.Prelude.{Bool, List, None, Option, Some, [], false, is_some, length, map, nat_le, nat_lt, not, slice_get, suc, true, zero, ℕ}
pub use Rattle.epl_tree.specs.declared.expression.Comparison.{Comparison}
pub use Rattle.epl_values.specs.declared.shape.EventShape.{EventShape}
pub use Rattle.epl_values.specs.declared.shape.Shape.{Shape, Shape-F, out-Shape}
