-- The names that most files here cite, passed on from one place. Declares nothing.
pub use Rattle.std.proofs.Common.{Bool, Err, List, None, Ok, Option, Some, [], ap, ap₂, false, length, map, refl, subst, suc, sym, true, true≢false, zero, ℕ, ℤ, ◌∙◌}
pub use Rattle.std.proofs.lemmas.Bool.{and_from, and_parts, eq-eqb, eqb-true, false≢true}
pub use Rattle.std.proofs.lemmas.Option.{none-some, same_Some}
pub use Rattle.std.specs.List.{AllByRecursion, list_all}
pub use Rattle.std.specs.Prelude.{Result, slice_get}
pub use Rattle.action_host.specs.declared.host.Fault.{Fault}
pub use Rattle.body_meaning.specs.Paths.{at_key, is_key, part, part_in, with_entry, with_part, with_part_in, without_entry}
pub use Rattle.body_meaning.specs.Values.{integer_of, natural, pairs_of}
pub use Rattle.body_meaning.specs.declared.run.Move.{Move}
pub use Rattle.epl_values.specs.Order.{KeysAscend, order_of}
pub use Rattle.epl_values.specs.declared.shape.EventShape.{EventShape}
pub use Rattle.epl_values.specs.declared.shape.Shape.{Shape, Shape-F, fold-roll-Shape, ind-Shape, map-Shape, out-Shape, out-roll-Shape, roll-Shape, roll-out-Shape}
pub use Rattle.epl_values.specs.declared.value.Pair.{Pair, out-Pair}
pub use Rattle.epl_values.specs.declared.value.Value.{Value, Value-F, fold-roll-Value, map-Value, out-Value, roll-Value}
pub use Rattle.event_types.specs.Types.{fields_of}
pub use Rattle.value_rules.specs.Shapes.{PairFit, all_fit, fits, pair_fits, pair_has}
pub use Rattle.value_shapes.specs.Fits.{AllFit, Fit, StepsTo}
pub use Rattle.value_steps.proofs.Kept.{all_get, all_joined, all_set, ok_same}
pub use Rattle.value_steps.specs.Orderly.{AreOrderly}
