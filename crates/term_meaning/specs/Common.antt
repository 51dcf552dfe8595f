-- The names that most files here cite, passed on from one place. Declares nothing.
pub use Rattle.std.specs.Prelude.{Bool, List, None, Option, Some, [], drop, false, filter, length, map, not, slice_get, slice_set, true, ℕ, ℤ}
pub use Rattle.epl_tree.specs.declared.event.Mode.{Mode}
pub use Rattle.epl_values.specs.declared.shape.EventShape.{EventShape}
pub use Rattle.epl_values.specs.declared.value.Value.{Value, Value-F, out-Value}
pub use Rattle.typed_program.specs.declared.program.Site.{Site}
pub use Rattle.typed_program.specs.declared.term.Constraint.{Constraint}
pub use Rattle.typed_program.specs.declared.term.ConstraintNode.{ConstraintNode}
pub use Rattle.typed_program.specs.declared.term.Duration.{Duration}
pub use Rattle.typed_program.specs.declared.term.Operand.{Operand}
pub use Rattle.typed_program.specs.declared.term.TemplateShape.{TemplateShape}
pub use Rattle.typed_program.specs.declared.term.Term.{Term, Term-F, fold-Term}
pub use Rattle.term_meaning.specs.declared.leaf.Computed.{Computed}
pub use Rattle.term_meaning.specs.declared.leaf.Leaf.{Leaf}
pub use Rattle.term_meaning.specs.declared.leaf.Span.{Span}
pub use Rattle.term_meaning.specs.declared.leaf.TextEnd.{TextEnd}
pub use Rattle.term_meaning.specs.declared.progress.Both.{Both}
pub use Rattle.term_meaning.specs.declared.progress.Grown.{Grown}
pub use Rattle.term_meaning.specs.declared.progress.Link.{Link}
pub use Rattle.term_meaning.specs.declared.progress.Progress.{Progress}
pub use Rattle.term_meaning.specs.declared.progress.Ran.{Ran}
pub use Rattle.term_meaning.specs.declared.progress.Running.{Running}
pub use Rattle.term_meaning.specs.declared.progress.Sides.{Sides}
pub use Rattle.term_meaning.specs.declared.progress.Started.{Started}
pub use Rattle.term_meaning.specs.declared.progress.Stepped.{Stepped}
pub use Rattle.term_meaning.specs.declared.stimulus.Binding.{Binding}
pub use Rattle.term_meaning.specs.declared.stimulus.Stimulus.{Stimulus}
