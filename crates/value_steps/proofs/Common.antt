-- The names that most files here cite, passed on from one place. Declares nothing.
pub use Rattle.std.proofs.Common.{Bool, Err, List, None, Ok, Option, Some, [], add-one, ap, arith, drop, drop-cons, false, get_or, length, map, refl, subst, suc, sym, take, true, zero, ℕ, ◌∙◌}
pub use Rattle.std.proofs.Math.Seq.{take-suc}
pub use Rattle.std.specs.List.{AllByRecursion}
pub use Rattle.std.specs.Option.{option_and_then}
pub use Rattle.std.specs.Prelude.{Result, is_some, nat_lt, remove, slice_get, slice_set, ℤ}
pub use Rattle.std.specs.declared.cmp.Ordering.{Ordering}
pub use Rattle.std.specs.declared.cmp.Ordering.TheVariants.{Equal, Greater, Less}
pub use Rattle.action_host.specs.declared.host.Fault.{Fault}
pub use Rattle.body_meaning.specs.Effects.{emptied, emptied_step}
pub use Rattle.body_meaning.specs.Methods.{added_in, appended_in, changed_by, cleared_in, first, removed_in, removed_key, removed_place, second}
pub use Rattle.body_meaning.specs.Paths.{altered, at_key, entry, entry_value, is_key, or_fault, part, part_in, put, put_in, set_at, stored, then_try, with_entry, with_part, with_part_in, without_entry}
pub use Rattle.body_meaning.specs.Values.{integer_of, natural}
pub use Rattle.body_meaning.specs.declared.run.Move.{Move}
pub use Rattle.epl_values.specs.Order.{AscendFrom, KeysAscend, Scalar, order_of, scalar_cmp, scalar_of}
pub use Rattle.epl_values.specs.declared.value.Pair.{Pair, map-Pair, out-Pair, roll-Pair, roll-out-Pair}
pub use Rattle.epl_values.specs.declared.value.Value.{Value, Value-F, map-Value, out-Value, roll-Value, roll-out-Value}
pub use Rattle.epl_values.specs.declared.value.Value.TheOpen.{Pair-F}
pub use Rattle.typed_program.specs.declared.expression.Method.{Method}
pub use Rattle.value_steps.specs.Changed.{Leaves, entry_altered, item_altered, place_altered, with_item, with_place}
pub use Rattle.value_steps.specs.Emptied.{emptied_entry}
pub use Rattle.value_steps.specs.Orderly.{AreOrderly, AreOrderlyPairs, IsOrderlyPair, KeysInOrder}
pub use Rattle.value_steps.specs.declared.trouble.Trouble.{Trouble}
