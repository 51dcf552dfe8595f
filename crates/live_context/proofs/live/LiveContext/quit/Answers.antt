use Rattle.live_context.specs.Counts.{count_its, counts_in, instances_in}
use Rattle.live_context.proofs.Order.{order_gone, order_none_gone}
use Rattle.live_context.proofs.live.LiveContext.quit.Goals as goal

pub invariant_of-self : goal.invariant_of-self
invariant_of-self c = order_gone c.self.inside.births c.self.inside.begun c.self.inside.listeners.items (instances_in c.self.inside.instances.items) (counts_in c.self.inside.instances.items) c.args.birth c.without_born.new.listeners.items (instances_in c.one_less.new.instances.items) (counts_in c.one_less.new.instances.items) c.in-Some.instance c.in-Some.ensures.answer c.without_born.ensures.after c.one_less.ensures.same (c.one_less.ensures.counts (count_its c.self.inside.listeners.items) c.self.invariant.counted) c.self.invariant

pub invariant_of-self-in_default : goal.invariant_of-self-in_default
invariant_of-self-in_default c = order_none_gone c.self.inside.births c.self.inside.begun c.self.inside.listeners.items (instances_in c.self.inside.instances.items) (counts_in c.self.inside.instances.items) c.args.birth c.without_born.new.listeners.items c.in_default.ensures.answer c.without_born.ensures.after c.self.invariant
