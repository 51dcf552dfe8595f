use Rattle.std.proofs.Common.{◌∙◌}
use Rattle.context_steps.specs.Calls.{turned_to}
use Rattle.context_steps.proofs.Stepping.{stepped_fits, turn_more}
use Rattle.context_steps.proofs.turns.step_all.Goals as goal

pub births-preserved : goal.births-preserved
births-preserved g c = record {
  means = turn_more c.args.around.now.program.now c.args.stimulus.now c.args.births.now c.births.birth-index (turned_to c.births.context c.births.fitted) (turned_to c.step_unless_spent.new.context c.in_ok-fitted.fitted) c.births-test.true c.in_ok-fitted.ensures.means ∙ c.births.invariant.means;
  fits = stepped_fits c.args.around.now.program.now c.args.stimulus.now _ c.births.context c.step_unless_spent.new.context c.births.fitted _ c.requires.keeps c.births.invariant.fits c.requires.heard c.in_ok-fitted.ensures.means;
  small = c.in_ok-fitted.ensures.small;
}
