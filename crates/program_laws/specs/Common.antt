-- The names that most files here cite, passed on from one place. Declares nothing.
pub use Rattle.std.specs.Prelude.{Bool, List, None, Option, Some, false, not, true, ℕ}
pub use Rattle.expr_rules.specs.Calls.{action_named}
pub use Rattle.expr_rules.specs.Names.{seen}
pub use Rattle.type_table.specs.declared.scope.Scope.{Scope}
pub use Rattle.type_table.specs.declared.scope.Seen.{Seen}
pub use Rattle.type_table.specs.declared.scope.SeenKind.{SeenKind}
pub use Rattle.type_table.specs.declared.table.ActionHead.{ActionHead}
pub use Rattle.type_table.specs.declared.table.Table.{Table}
