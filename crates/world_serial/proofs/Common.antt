-- The names that most files here cite, passed on from one place. Declares nothing.
pub use Rattle.std.proofs.Common.{Bool, List, None, Option, Some, [], ap, arith, cond, false, get_or, length, map, nat_lt, refl, slice_get, slice_set, subst, suc, sym, true, zero, ℕ, ◌∙◌}
pub use Rattle.std.specs.List.{AllByRecursion}
pub use Rattle.actor_theory.specs.Joined.{Reader, Slots, joined, slots_only}
pub use Rattle.actor_theory.specs.Language.{Sent, number_after, stamped}
pub use Rattle.actor_theory.specs.Machine.{Cell, ReaderCell, Stand, Stepped, cell_after, delivered, empty_queues, queue_at, reader_after_entry, reader_after_item, world_of}
pub use Rattle.actor_theory.specs.World.{turn_of}
pub use Rattle.actor_theory.specs.declared.entry.Entry.{Entry}
pub use Rattle.record_book.specs.declared.cargo.Cargo.{Cargo}
pub use Rattle.entry_queues.specs.Queued.{first_of, rest_of}
