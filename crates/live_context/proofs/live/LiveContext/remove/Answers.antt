use Rattle.live_context.specs.Counts.{count_its, counts_in, instances_in}
use Rattle.live_context.proofs.Order.{order_removed}
use Rattle.live_context.proofs.live.LiveContext.remove.Goals as goal

pub invariant_of-self : goal.invariant_of-self
invariant_of-self c = order_removed c.self.inside.births c.self.inside.begun c.self.inside.listeners.items (instances_in c.self.inside.instances.items) (counts_in c.self.inside.instances.items) _ (instances_in c.take_out.new.instances.items) (counts_in c.take_out.new.instances.items) c.take_out.ensures.after (c.take_out.ensures.counts (count_its c.self.inside.listeners.items)) c.self.invariant
