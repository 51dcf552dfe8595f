-- The names that most files here cite, passed on from one place. Declares nothing.
pub use Rattle.std.proofs.Common.{All, Bool, List, None, Option, Some, [], ap, drop, length, map, refl, slice_get, subst, sym, true, ℕ, ℤ, ◌∙◌}
pub use Rattle.std.proofs.lemmas.Bool.{and_from, and_parts, cond_both}
pub use Rattle.std.proofs.lemmas.List.Elements.{All-append, All-cons, All-head, All-nil, All-push, All-tail}
pub use Rattle.std.specs.List.{AllByRecursion, list_all}
pub use Rattle.epl_values.specs.declared.shape.EventShape.{EventShape}
pub use Rattle.epl_values.specs.declared.value.Value.{Value, Value-F, out-Value}
pub use Rattle.typed_program.specs.declared.program.Local.{Local}
pub use Rattle.typed_program.specs.declared.term.TemplateShape.{TemplateShape}
pub use Rattle.value_shapes.specs.Fits.{Fit, IsEvent}
pub use Rattle.term_meaning.specs.declared.leaf.Leaf.{Leaf}
pub use Rattle.term_meaning.specs.declared.progress.Progress.{Progress, map-Progress, roll-Progress}
pub use Rattle.term_meaning.specs.declared.progress.Progress.TheOpen.{Progress-F, Running-F, Sides-F}
pub use Rattle.term_meaning.specs.declared.progress.Running.{Running, out-Running}
pub use Rattle.term_meaning.specs.declared.progress.Sides.{Sides, out-Sides}
pub use Rattle.term_meaning.specs.declared.stimulus.Binding.{Binding}
pub use Rattle.term_meaning.specs.declared.stimulus.Stimulus.{Stimulus}
pub use Rattle.term_meaning.specs.Operands.{Setting}
pub use Rattle.term_meaning.specs.Patterns.{Pattern}
pub use Rattle.term_shapes.specs.Kept.{BindingFits, CompletionFits, CompletionsFit, HeardFits, ProgressFits, Test}
