use Rattle.std.proofs.Common.{sym, ◌∙◌}
use Rattle.live_context.specs.Counts.{count_its, counts_in, instances_in}
use Rattle.live_context.proofs.Order.{order_all_gone}
use Rattle.live_context.proofs.Listening.{idle_is}
use Rattle.live_context.proofs.live.LiveContext.quit_all.Goals as goal

pub invariant_of-self : goal.invariant_of-self
invariant_of-self c = order_all_gone c.self.inside.births c.self.inside.begun c.self.inside.listeners.items (instances_in c.self.inside.instances.items) (counts_in c.self.inside.instances.items) c.args.instance c.without_its.new.listeners.items (instances_in c.set_count.new.instances.items) (counts_in c.set_count.new.instances.items) c.without_its.ensures c.set_count.ensures.same (c.set_count.ensures.counts (count_its c.self.inside.listeners.items) c.self.invariant.counted) c.self.invariant

pub returns-else-is_busy : goal.returns-else-is_busy
returns-else-is_busy c = idle_is c.args.instance c.args.self.now (sym c.is_busy.ensures ∙ c.if-is_busy.false)
