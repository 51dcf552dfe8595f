use Rattle.std.proofs.Common.{rules, false, sym, subst, ◌≡◌, ◌∙◌}
use Rattle.context_meaning.specs.Fits.{ContextFits}
use Rattle.context_steps.proofs.Fronts.{first_fits, first_row, first_same, rest_fits}
use Rattle.context_steps.proofs.handling.settle.Goals as goal

pub thing-requires-clause-fits : goal.thing-requires-clause-fits
thing-requires-clause-fits g c = rest_fits c.args.around.now.program.now c.front.context c.take_first.new.self c.in-Some.first c.front.invariant.fits c.in-Some.ensures.answer c.in-Some.ensures.after

pub thing-requires-clause-thing : goal.thing-requires-clause-thing
thing-requires-clause-thing g c = first_fits c.args.around.now.program.now c.front.context c.in-Some.first c.front.invariant.fits c.in-Some.ensures.answer

pub front-preserved : goal.front-preserved
front-preserved g c =
    let p = c.args.around.now.program.now in
    let lives : c.front.context.spent ≡ false = search rules in
    record {
      means = first_same p c.front.context c.take_first.new.self c.thing.new.context c.in-Some.first c.front.invariant.row lives c.in-Some.ensures.answer c.in-Some.ensures.after c.in_ok-thing.ensures.means ∙ c.front.invariant.means;
      fits = subst (ContextFits p) (sym c.in_ok-thing.ensures.means) (c.requires.keeps.thing c.in-Some.first c.take_first.new.self (rest_fits p c.front.context c.take_first.new.self c.in-Some.first c.front.invariant.fits c.in-Some.ensures.answer c.in-Some.ensures.after) (first_fits p c.front.context c.in-Some.first c.front.invariant.fits c.in-Some.ensures.answer));
      row = first_row p c.take_first.new.self c.thing.new.context c.in-Some.first c.in_ok-thing.ensures.means;
      small = c.in_ok-thing.ensures.small;
    }
