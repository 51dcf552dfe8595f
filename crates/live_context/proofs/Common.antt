-- The names that most files here cite, passed on from one place. Declares nothing.
pub use Rattle.std.proofs.Common.{Bool, List, None, Option, Some, [], ap, arith, cond, drop, eqb, false, filter, length, ltb, map, not, refl, slice_get, slice_set, subst, suc, sym, take, true, zero, ℕ, ◌∙◌}
pub use Rattle.std.proofs.lemmas.Bool.Decides.{nat_tests}
pub use Rattle.std.specs.List.{find}
pub use Rattle.epl_values.specs.declared.value.Value.{Value}
pub use Rattle.context_meaning.specs.declared.context.Instance.{Instance}
pub use Rattle.context_meaning.specs.Listeners.{Listener}
pub use Rattle.context_meaning.specs.Contexts.{is_born, is_instance, is_its, put_expression, put_globals}
pub use Rattle.live_context.specs.Counts.{AreCounts, count_its, counts_in, instances_in, with_count}
pub use Rattle.live_context.specs.Order.{Ascend, InOrder, Within, below, birth_of, number_of, owner_of}
pub use Rattle.live_context.specs.Places.{FoundAt}
pub use Rattle.live_context.specs.declared.instances.LiveInstance.{LiveInstance}
