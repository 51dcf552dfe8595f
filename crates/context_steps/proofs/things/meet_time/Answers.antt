use Rattle.std.proofs.Common.{rules, ℤ, ap, ◌∙◌}
use mir.Syntax.{w128}
use mir.Val.{SFits}
use Rattle.std.proofs.lemmas.Int.{to_z-of_z}
use Rattle.context_meaning.specs.Contexts.{with_clock}
use Rattle.context_steps.proofs.Calling.{paid_fits}
use Rattle.context_steps.proofs.Fronts.{clock_fits}
use Rattle.context_steps.proofs.things.meet_time.Goals as goal

pub one_turn-requires-clause-fits : goal.one_turn-requires-clause-fits
one_turn-requires-clause-fits g c = let fits : SFits w128 c.args.now = search rules in clock_fits c.args.around.now.program.now c.args.now c.charge.new.context c.set_clock-2.new.self c.requires.time (paid_fits c.args.around.now.program.now 5 c.args.context.now c.charge.new.context c.charge.ensures.after c.requires.fits) (c.set_clock-2.ensures ∙ ap (λ (t : ℤ). with_clock t c.charge.new.context) (to_z-of_z w128 c.args.now fits))
