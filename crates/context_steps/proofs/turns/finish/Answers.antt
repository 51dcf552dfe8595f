use Rattle.std.proofs.Common.{List, subst, sym}
use Rattle.term_meaning.specs.declared.stimulus.Binding.{Binding}
use Rattle.term_shapes.specs.Kept.{CompletionsFit}
use Rattle.context_steps.proofs.turns.finish.Goals as goal

pub call_all-requires-clause-bound : goal.call_all-requires-clause-bound
call_all-requires-clause-bound g c = subst (λ (xs : List (List Binding)). CompletionsFit c.args.around.now.program.now.types c.args.site.now.bound xs) (sym c.as_slice.ensures) c.requires.bound
