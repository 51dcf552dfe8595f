use Rattle.term_shapes.specs.Kept.{CompletionsFit}
use Rattle.context_steps.proofs.Calling.{paid_fits}
use Rattle.context_steps.proofs.Stepping.{paid_at}
use Rattle.context_steps.proofs.turns.take.Goals as goal

pub finish_at-requires-clause-fits : goal.finish_at-requires-clause-fits
finish_at-requires-clause-fits g c = paid_fits c.args.around.now.program.now c.args.out.begun c.args.context.now c.charge.new.context c.charge.ensures.after c.requires.fits

pub finish_at-requires-clause-bound : goal.finish_at-requires-clause-bound
finish_at-requires-clause-bound g c = paid_at c.args.around.now.program.now c.args.out.begun c.args.birth c.args.context.now c.charge.new.context (λ l site. CompletionsFit c.args.around.now.program.now.types site.bound c.args.out.completions) c.charge.ensures.after c.requires.bound
