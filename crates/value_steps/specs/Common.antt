-- The names that most files here cite, passed on from one place. Declares nothing.
pub use Rattle.std.specs.Prelude.{Bool, Err, List, Ok, Result, [], ℕ}
pub use Rattle.action_host.specs.declared.host.Fault.{Fault}
pub use Rattle.body_meaning.specs.Paths.{then_try}
pub use Rattle.body_meaning.specs.declared.run.Move.{Move}
pub use Rattle.epl_values.specs.declared.value.Pair.{Pair}
pub use Rattle.epl_values.specs.declared.value.Value.{Value}
