-- The names that most files here cite, passed on from one place. Declares nothing.
pub use Rattle.std.specs.List.{AllByRecursion}
pub use Rattle.std.specs.Prelude.{Bool, Err, IsTrue, List, None, Ok, Option, Result, Some, [], false, length, nat_le, neg_ℤ, negsuc, pos, suc, true, zero, ℕ, ℤ}
pub use Rattle.epl_values.specs.declared.shape.EventShape.{EventShape}
pub use Rattle.epl_values.specs.declared.shape.Field.{Field}
pub use Rattle.epl_values.specs.declared.value.Pair.{Pair}
pub use Rattle.epl_values.specs.declared.value.Value.{Value}
pub use Rattle.event_types.specs.Types.{BooleanForm, ContextForm, DictionaryForm, EventForm, Form, IntegerForm, ListenerForm, SequenceForm, TextForm}
