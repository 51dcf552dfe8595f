use Rattle.std.proofs.Common.{sym}
use Rattle.value_steps.proofs.Kept.{part_orderly}
use Rattle.value_steps.proofs.Following.{follow_step}
use Rattle.value_steps.proofs.parts.follow.Goals as goal

pub loop-to-preserved : goal.loop-to-preserved
loop-to-preserved c = record {
  order = part_orderly c.to-item.result c.loop-to.place.now c.in_ok-place.place.now c.loop-to.invariant.order (sym c.in_ok-place.ensures);
  rest = follow_step c.args.moves.now c.loop-to.to-index c.to-item.result c.loop-to.place.now c.in_ok-place.place.now c.args.value.now c.loop-to-test.true c.to-item.is c.in_ok-place.ensures c.loop-to.invariant.rest;
}
