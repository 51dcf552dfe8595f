use Rattle.live_context.specs.Counts.{counts_in, instances_in}
use Rattle.live_context.proofs.Order.{order_put}
use Rattle.live_context.proofs.live.LiveContext.put_back.Goals as goal

pub invariant_of-self : goal.invariant_of-self
invariant_of-self c = order_put c.self.inside.births c.self.inside.begun c.self.inside.listeners.items (instances_in c.self.inside.instances.items) (counts_in c.self.inside.instances.items) c.args.number c.args.globals (instances_in c.put_into.new.instances.items) (counts_in c.put_into.new.instances.items) c.put_into.ensures.after c.put_into.ensures.counts c.self.invariant
