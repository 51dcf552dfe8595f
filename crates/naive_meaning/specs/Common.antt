-- The names that most files here cite, passed on from one place. Declares nothing.
pub use Rattle.std.specs.Prelude.{List, Option, [], ℕ}
pub use Rattle.record_book.specs.declared.cargo.Cargo.{Cargo}
pub use Rattle.record_book.specs.declared.cargo.Line.{Line}
pub use Rattle.context_meaning.specs.Contexts.{Context}
pub use Rattle.typed_program.specs.declared.program.Program.{Program}
