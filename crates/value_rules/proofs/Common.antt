-- The names that most files here cite, passed on from one place. Declares nothing.
pub use Rattle.std.proofs.Common.{Bool, List, None, Some, [], ap, arith, false, inl, inr, length, map, refl, suc, sym, true, zero, ℕ, ◌∙◌}
pub use Rattle.std.proofs.lemmas.Option.{none-some}
pub use Rattle.std.specs.List.{AllByRecursion, slice_get}
pub use Rattle.epl_values.specs.declared.shape.EventShape.{EventShape}
pub use Rattle.epl_values.specs.declared.shape.Shape.{Shape, out-Shape}
pub use Rattle.epl_values.specs.declared.value.Pair.{Pair}
pub use Rattle.epl_values.specs.declared.value.Value.{Value}
pub use Rattle.value_rules.specs.Defaults.{default_of}
pub use Rattle.value_rules.specs.Shapes.{event_fits, fits, pair_has}
