use Rattle.std.proofs.Common.{Option, ap, subst, sym, ◌||◌, ◌∙◌}
use Rattle.event_terms.specs.declared.state.StepOut.{StepOut}
use Rattle.live_context.specs.Steps.{StepsBorn}
use Rattle.context_steps.specs.Calls.{turned_to}
use Rattle.context_steps.proofs.Stepping.{step_bound, step_fits, step_some}
use Rattle.context_steps.proofs.turns.step.Goals as goal

pub take-requires-clause-fits : goal.take-requires-clause-fits
take-requires-clause-fits g c = step_fits c.args.around.now.program.now c.args.stimulus.now c.args.birth c.args.context.now c.step.new.self c.in-Some.out c.requires.keeps c.requires.fits c.requires.heard (subst (λ (o : Option StepOut). StepsBorn c.args.around.now.program.now c.args.stimulus.now c.args.birth c.args.context.now o c.step.new.self) c.in-Some.is c.in_ok-step.ensures)

pub take-requires-clause-bound : goal.take-requires-clause-bound
take-requires-clause-bound g c = step_bound c.args.around.now.program.now c.args.stimulus.now c.args.birth c.args.context.now c.step.new.self c.in-Some.out c.requires.keeps c.requires.fits c.requires.heard (subst (λ (o : Option StepOut). StepsBorn c.args.around.now.program.now c.args.stimulus.now c.args.birth c.args.context.now o c.step.new.self) c.in-Some.is c.in_ok-step.ensures)

pub returns-then-fitted-clause-means : goal.returns-then-fitted-clause-means
returns-then-fitted-clause-means g c = ap (turned_to c.take.new.context) c.if-fitted.true ∙ ap (λ b. turned_to c.take.new.context (b || c.in-Some.out.fitted)) (sym c.if-fitted.true) ∙ step_some c.args.around.now.program.now c.args.stimulus.now c.args.birth c.args.context.now c.step.new.self c.take.new.context c.in-Some.out c.args.fitted (subst (λ (o : Option StepOut). StepsBorn c.args.around.now.program.now c.args.stimulus.now c.args.birth c.args.context.now o c.step.new.self) c.in-Some.is c.in_ok-step.ensures) c.in_ok-take-in-Some.ensures.means

pub returns-else-fitted-clause-means : goal.returns-else-fitted-clause-means
returns-else-fitted-clause-means g c = ap (λ b. turned_to c.take.new.context (b || c.in-Some.out.fitted)) (sym c.if-fitted.false) ∙ step_some c.args.around.now.program.now c.args.stimulus.now c.args.birth c.args.context.now c.step.new.self c.take.new.context c.in-Some.out c.args.fitted (subst (λ (o : Option StepOut). StepsBorn c.args.around.now.program.now c.args.stimulus.now c.args.birth c.args.context.now o c.step.new.self) c.in-Some.is c.in_ok-step.ensures) c.in_ok-take-in-Some.ensures.means
