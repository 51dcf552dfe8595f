-- The names that most files here cite, passed on from one place. Declares nothing.
pub use Rattle.std.proofs.Common.{Bool, Err, List, None, Ok, Option, Result, Some, [], ap, append_assoc, arith, cond, drop, false, inl, inr, length, length-append, refl, slice_get, subst, suc, sym, take, true, zero, pos, ℕ, ℤ, ◌∙◌}
pub use Rattle.std.proofs.lemmas.Bool.{ne_eqb}
pub use Rattle.std.proofs.lemmas.Option.{same_Some}
pub use Rattle.std.proofs.lemmas.Result.{err_from_is_err_and}
pub use Rattle.std.specs.List.{flat_map}
pub use Rattle.std.specs.Option.{option_to_list}
pub use Rattle.std.specs.Result.{IsErrAnd}
pub use Rattle.std.specs.Str.Lines.{lines}
pub use Rattle.epl_values.specs.declared.shape.EventShape.{EventShape}
pub use Rattle.epl_values.specs.declared.value.Value.{Value}
pub use Rattle.evt_reader.specs.Files.{AreLines, GivesItems, IsLine, lines_of}
pub use Rattle.evt_reader.specs.Steps.{HasName, LacksName, TakesOff}
pub use Rattle.evt_text.specs.Forms.{AreEventTypes}
pub use Rattle.evt_text.specs.Spelling.{Spells}
pub use Rattle.record_book.specs.declared.item.Item.{Item}
pub use Rattle.record_book.specs.declared.item.Item.TheVariants.{Event, Time}
