-- The names that most files here cite, passed on from one place. Declares nothing.
pub use Rattle.std.specs.Prelude.{Bool, Err, List, None, Ok, Option, Result, Some, [], false, length, map, nat_le, nat_lt, negsuc, not, pos, remove, slice_get, suc, true, zero, ℕ, ℤ}
pub use Rattle.std.specs.declared.cmp.Ordering.{Ordering}
pub use Rattle.std.specs.declared.cmp.Ordering.TheVariants.{Equal, Greater, Less}
pub use Rattle.action_host.specs.Scenes.{Scene}
pub use Rattle.action_host.specs.declared.host.Effect.{Effect}
pub use Rattle.action_host.specs.declared.host.Fault.{Fault}
pub use Rattle.epl_tree.specs.declared.expression.Comparison.{Comparison}
pub use Rattle.epl_tree.specs.declared.expression.Operator.{Operator}
pub use Rattle.epl_values.specs.Order.{order_of}
pub use Rattle.epl_values.specs.declared.shape.EventShape.{EventShape}
pub use Rattle.epl_values.specs.declared.shape.Shape.{Shape}
pub use Rattle.epl_values.specs.declared.value.Pair.{Pair, out-Pair, roll-Pair}
pub use Rattle.epl_values.specs.declared.value.Value.{Value, Value-F, out-Value, roll-Value}
pub use Rattle.typed_program.specs.declared.expression.Method.{Method}
pub use Rattle.typed_program.specs.declared.expression.TypedExpr.{TypedExpr}
pub use Rattle.typed_program.specs.declared.expression.TypedSuffix.{TypedSuffix}
pub use Rattle.typed_program.specs.declared.program.Site.{Site}
pub use Rattle.typed_program.specs.declared.statement.Stmt.{Stmt}
pub use Rattle.typed_program.specs.declared.statement.Variable.{Variable}
pub use Rattle.value_rules.specs.Costs.{cost_of}
pub use Rattle.value_rules.specs.Defaults.{default_of}
