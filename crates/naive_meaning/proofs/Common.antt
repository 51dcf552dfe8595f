-- The names that most files here cite, passed on from one place. Declares nothing.
pub use Rattle.std.proofs.Common.{Bool, IfSome, List, None, Option, Some, [], ap, append-nil, append_assoc, arith, cond, false, filter, get_or, inl, inr, length, map, max, nat_le, refl, slice_get, subst, suc, sym, true, zero, ℕ, ◌∙◌}
pub use Rattle.std.proofs.lemmas.Bool.{cases_eq, cases_lt, eq-eqb, eqb-false, eqb-true, ne_eqb}
pub use Rattle.actor_theory.specs.Language.{Sent, by, is_for, mail, number_after, numbers_along, replies, stamped}
pub use Rattle.actor_theory.specs.Joined.{lifted, lifted_sent, items_of, slot_after, step_entry, step_number}
pub use Rattle.actor_theory.specs.World.{World, own}
pub use Rattle.actor_theory.specs.declared.entry.Entry.{Entry}
pub use Rattle.actor_theory.specs.declared.entry.Handled.{Handled}
pub use Rattle.actor_theory.specs.declared.entry.ReaderStep.{ReaderStep}
pub use Rattle.record_book.specs.declared.cargo.Cargo.{Cargo}
pub use Rattle.record_book.specs.declared.item.Item.{Item}
pub use Rattle.record_book.specs.declared.record.ContextRecord.{ContextRecord}
pub use Rattle.record_book.specs.declared.record.Record.{Record}
pub use Rattle.record_book.specs.declared.record.Settings.{Settings}
pub use Rattle.context_meaning.specs.Contexts.{Context, fresh}
pub use Rattle.context_meaning.specs.Handling.{handle}
pub use Rattle.typed_program.specs.declared.program.Program.{Program}
pub use Rattle.naive_meaning.specs.Actors.{actors_of, item_sends, loads_below, reader_of, slots_of}
pub use Rattle.naive_meaning.specs.Faithful.{context_sends, entries_of, items_send, log_of, naive, numbers, part_at, received, sends, stamp_of}
