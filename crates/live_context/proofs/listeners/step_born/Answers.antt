use Rattle.std.proofs.Common.{ℤ, subst}
use Rattle.std.specs.Int.{w128}
use Rattle.std.proofs.lemmas.Int.{to_z-of_z}
use Rattle.live_context.specs.Places.{BornAt}
use Rattle.live_context.specs.Steps.{StepsPlace}
use Rattle.live_context.proofs.Stepping.{steps_found}
use Rattle.live_context.proofs.listeners.step_born.Goals as goal

pub returns-in_ok-told-in-Some-clause-steps : goal.returns-in_ok-told-in-Some-clause-steps
returns-in_ok-told-in-Some-clause-steps c =
    let b = subst (λ xs. BornAt c.args.birth xs c.in-Some.at) c.as_slice.ensures.value c.in-Some.ensures in
    let placed = subst (λ (t : ℤ). StepsPlace c.args.program.now c.args.stimulus.now t c.in-Some.at c.args.listeners.now.items b.found c.in_ok-told-in-Some.told c.step_at.new.listeners.items) (to_z-of_z w128 c.args.now c.ranges.now) (c.in_ok-told-in-Some.ensures.steps b.found b.here) in
    steps_found c.args.program.now c.args.stimulus.now c.args.now c.args.birth c.in-Some.at c.args.listeners.now.items c.step_at.new.listeners.items c.in_ok-told-in-Some.told b placed
