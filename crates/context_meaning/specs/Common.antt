-- The names that most files here cite, passed on from one place. Declares nothing.
pub use Rattle.std.specs.List.{find}
pub use Rattle.std.specs.Prelude.{Bool, List, None, Option, Some, [], false, length, map, not, slice_get, true, ℕ}
pub use Rattle.epl_values.specs.declared.value.Value.{Value, out-Value}
pub use Rattle.typed_program.specs.declared.program.Monitor.{Monitor}
pub use Rattle.typed_program.specs.declared.program.Program.{Program}
pub use Rattle.typed_program.specs.declared.program.Site.{Site}
pub use Rattle.record_book.specs.declared.cargo.Line.{Line}
pub use Rattle.context_meaning.specs.declared.context.Instance.{Instance}
pub use Rattle.context_meaning.specs.declared.context.Waiting.{Waiting}
