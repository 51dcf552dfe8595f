-- The names that most files here cite, passed on from one place. Declares nothing.
pub use Rattle.std.specs.Option.{option_to_list}
pub use Rattle.std.specs.Prelude.{Err, List, None, Ok, Option, Result, Some, [], codes, length, pos, slice_get, ℕ, ℤ}
pub use Rattle.std.specs.Str.Lines.{lines}
pub use Rattle.epl_values.specs.declared.shape.EventShape.{EventShape}
pub use Rattle.epl_values.specs.declared.value.Value.{Value}
pub use Rattle.record_book.specs.declared.item.Item.{Item}
