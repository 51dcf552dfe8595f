use Rattle.std.proofs.Common.{ℤ, rules, subst}
use Rattle.std.specs.Prelude.{IfOk}
use Rattle.std.proofs.Common.{SFits}
use Rattle.std.specs.Int.{w128}
use Rattle.std.proofs.lemmas.Int.{to_z-of_z}
use Rattle.live_context.specs.Counts.{counts_in, instances_in}
use Rattle.live_context.specs.Steps.{StepsAmong}
use Rattle.live_context.proofs.Order.{order_same}
use Rattle.live_context.proofs.Stepping.{steps_shown}
use Rattle.live_context.proofs.live.LiveContext.step.Goals as goal

pub invariant_of-self : goal.invariant_of-self
invariant_of-self c = order_same c.self.inside.births c.self.inside.begun c.self.inside.listeners.items (instances_in c.self.inside.instances.items) (counts_in c.self.inside.instances.items) c.step_born.new.listeners.items c.step_born.ensures.same c.self.invariant

pub returns : goal.returns
returns c =
    let fits : SFits w128 c.self.inside.clock = search rules in
    let steps = subst (λ (t : ℤ). IfOk c.step_born.result (λ told. StepsAmong c.args.program.now c.args.stimulus.now t c.args.birth c.self.inside.listeners.items told c.step_born.new.listeners.items)) (to_z-of_z w128 c.self.inside.clock fits) c.step_born.ensures.steps in
    steps_shown c.args.program.now c.args.stimulus.now c.args.birth _ c.args.self.now c.step_born.new.listeners.items c.step_born.result c.self.view_is c.requires.fits steps
