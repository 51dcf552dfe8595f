-- The names that most files here cite, passed on from one place. Declares nothing.
pub use Rattle.std.specs.Prelude.{List, [], suc, ℕ}
pub use Rattle.actor_theory.specs.Machine.{Cell}
pub use Rattle.actor_theory.specs.declared.entry.Entry.{Entry}
pub use Rattle.record_book.specs.declared.cargo.Cargo.{Cargo}
pub use Rattle.record_book.specs.declared.item.Item.{Item}
pub use Rattle.record_book.specs.declared.record.Settings.{Settings}
pub use Rattle.context_core.specs.Cells.{CellPart}
pub use Rattle.source_actor.specs.Steps.{ReaderPart}
pub use Rattle.typed_program.specs.declared.program.Program.{Program}
