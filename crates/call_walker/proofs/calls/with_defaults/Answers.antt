use Rattle.call_walker.proofs.Locals.{defaults_next, defaults_orderly}
use Rattle.call_walker.proofs.calls.with_defaults.Goals as goal

pub loop-shape-preserved : goal.loop-shape-preserved
loop-shape-preserved c = record {
  values = defaults_next c.args.types.now _ c.loop-shape.locals c.push.new.self c.in_ok-value.value c.args.shapes.now c.as_slice-shape-items.result.now c.loop-shape.shape-index c.shape-item.result c.as_slice-shape-items.ensures c.loop-shape-test.true c.shape-item.is c.in_ok-value.ensures c.in_ok-push.ensures.ok c.loop-shape.invariant.values;
  order = defaults_orderly c.args.types.now c.loop-shape.locals c.push.new.self c.in_ok-value.value c.shape-item.result c.in_ok-value.ensures c.in_ok-push.ensures.ok c.loop-shape.invariant.order;
}
