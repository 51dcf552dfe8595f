-- The names that most files here cite, passed on from one place. Declares nothing.
pub use Rattle.std.specs.Prelude.{Bool, List, None, Option, Some, [], false, slice_get, true, ℕ}
pub use Rattle.context_meaning.specs.Contexts.{Context}
pub use Rattle.context_meaning.specs.Fits.{ContextFits}
pub use Rattle.context_meaning.specs.Listeners.{Listener}
pub use Rattle.epl_values.specs.declared.value.Value.{Value}
pub use Rattle.typed_program.specs.declared.program.Program.{Program}
pub use Rattle.typed_program.specs.declared.program.Site.{Site}
