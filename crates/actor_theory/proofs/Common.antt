-- The names that most files here cite, passed on from one place. Declares nothing.
pub use Rattle.std.proofs.Common.{Bool, IfSome, List, None, Option, Some, [], ap, append-nil, append_assoc, arith, cond, drop, false, filter, inl, inr, length, map, max, nat_le, nat_lt, not, refl, slice_get, slice_set, subst, suc, sym, true, zero, ℕ, ◌∙◌}
pub use Rattle.std.proofs.lemmas.Bool.{and_from, and_parts, cases_eq, cases_lt, eq-eqb, eqb-false, eqb-true, le-leb, leb-true, lt-ltb, ltb-true, ne_eqb, not_from_false}
pub use Rattle.std.proofs.lemmas.List.{map-append}
pub use Rattle.std.proofs.lemmas.List.Elements.{filter-append}
pub use Rattle.std.proofs.lemmas.Option.{slice_get_past}
pub use Rattle.std.specs.List.{AllByRecursion}
pub use Rattle.std.specs.Option.{is_some}
pub use Rattle.actor_theory.specs.Caused.{IsCausal}
pub use Rattle.actor_theory.specs.Faithful.{BeginsWithBoot, IsBoot, IsFaithfulRun, IsPrefix, IsReaderQuiet, IsScheduledRun, IsUnspentAlong}
pub use Rattle.actor_theory.specs.Joined.{Reader, Slots, lifted, lifted_sent, reader_after, slot_after, slots_only, step_entry, step_number, to_actors, to_slots}
pub use Rattle.actor_theory.specs.Kept.{IsFaithful, IsKept, IsNaive, IsScheduled, IsSlotEnded, Kept, SlotKept, log_of, number_of, slot_left, slot_log, world_of_kept}
pub use Rattle.actor_theory.specs.Language.{Language, Moment, Sent, after_all, by, first, is_for, loaded, mail, naive, next, number_after, number_along, numbers_along, replies, reply, sends, stamped}
pub use Rattle.actor_theory.specs.Machine.{Cell, IsCellOf, ReaderCell, Stand, Stepped, arrived, cell_after, cell_log, delivered, fresh_cells, fresh_reader, kept_of, loaded_queues, own_items, queue_at, queue_in, reader_after_entry, reader_after_item, without_items, world_of}
pub use Rattle.actor_theory.specs.Measure.{IsJoinedLog}
pub use Rattle.actor_theory.specs.Order.{FindsEach, Handling, IsAscending, IsBefore, IsOrder, at, handlings, handlings_from, insert, insert_all, is_before, left_of, merged, order_of, pick_of}
pub use Rattle.actor_theory.specs.Potential.{IsMeasure, entry_cost, potential, total}
pub use Rattle.actor_theory.specs.Rounding.{Rounding}
pub use Rattle.actor_theory.specs.World.{IsFinished, IsQuiet, World, finds, first_from, follow, found, handled, head_sender, is_open, other_sender, own, picked, round, rounds, start, step, steps, turn_of, with_front}
pub use Rattle.actor_theory.specs.declared.entry.Entry.{Entry}
pub use Rattle.actor_theory.specs.declared.entry.Handled.{Handled}
pub use Rattle.actor_theory.specs.declared.entry.ReaderStep.{ReaderStep}
pub use Rattle.actor_theory.specs.declared.entry.ReaderStep.TheVariants.{Item}
