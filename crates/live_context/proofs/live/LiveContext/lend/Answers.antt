use Rattle.live_context.specs.Counts.{counts_in, instances_in}
use Rattle.live_context.proofs.Order.{order_put}
use Rattle.live_context.proofs.live.LiveContext.lend.Goals as goal

pub invariant_of-self : goal.invariant_of-self
invariant_of-self c = order_put c.self.inside.births c.self.inside.begun c.self.inside.listeners.items (instances_in c.self.inside.instances.items) (counts_in c.self.inside.instances.items) c.args.number _ (instances_in c.lend_from.new.instances.items) (counts_in c.lend_from.new.instances.items) c.lend_from.ensures.after c.lend_from.ensures.counts c.self.invariant
