-- The names that most files here cite, passed on from one place. Declares nothing.
pub use Rattle.std.specs.Prelude.{List, None, Option, Some, slice_get, ℕ}
pub use Rattle.epl_values.specs.declared.shape.Shape.{Shape}
pub use Rattle.epl_values.specs.declared.value.Value.{Value}
pub use Rattle.typed_program.specs.declared.program.Action.{Action}
pub use Rattle.typed_program.specs.declared.program.Program.{Program}
pub use Rattle.typed_program.specs.declared.program.Site.{Site}
pub use Rattle.value_shapes.specs.Fits.{AllFit}
