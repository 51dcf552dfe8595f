use Rattle.std.proofs.Common.{rules, ℤ, ap, ◌∙◌}
use mir.Syntax.{w128}
use mir.Val.{SFits}
use Rattle.std.proofs.lemmas.Result.{on_ok_weaker}
use Rattle.std.proofs.lemmas.Int.{to_z-of_z}
use Rattle.context_meaning.specs.Handling.{timed}
use Rattle.context_steps.proofs.Fronts.{settles_time}
use Rattle.context_steps.proofs.handling.entry_time.Goals as goal

pub returns-clause-means : goal.returns-clause-means
returns-clause-means g c = let fits : SFits w128 c.args.now = search rules in on_ok_weaker c.put_in_front.result (settles_time c.args.around.now.program.now c.args.now c.args.context.now c.meet_time.new.context c.put_in_front.new.self c.requires.keeps c.requires.fits c.requires.time (c.in_ok-meet_time.ensures.means ∙ ap (λ (t : ℤ). timed c.args.around.now.program.now t c.args.context.now) (to_z-of_z w128 c.args.now fits))) c.put_in_front.ensures
