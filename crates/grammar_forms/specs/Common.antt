-- The names that most files here cite, passed on from one place. Declares nothing.
pub use Rattle.std.specs.Prelude.{Bool, List, None, Option, Some, [], false, true, ℕ}
