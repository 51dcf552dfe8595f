use Rattle.std.proofs.Common.{ap, refl, rules, ◌∙◌}
use Rattle.std.proofs.lemmas.List.{map-append}
use Rattle.live_context.specs.declared.instances.LiveInstance.{LiveInstance}
use Rattle.live_context.specs.Counts.{counts_in, instances_in}
use Rattle.live_context.proofs.Order.{order_begun}
use Rattle.live_context.proofs.live.LiveContext.begin.Goals as goal

pub invariant_of-self-2 : goal.invariant_of-self-2
invariant_of-self-2 c =
    let old = c.self.inside.instances.items in
    order_begun c.self.inside.births c.self.inside.begun c.self.inside.listeners.items (instances_in c.self.inside.instances.items) (counts_in c.self.inside.instances.items) c.in-Some.number (instances_in c.push.new.self.items) (counts_in c.push.new.self.items) _ (search rules) refl
    (ap instances_in c.in_ok-push.ensures.items ∙ map-append (λ (x : LiveInstance). x.instance) old _)
    (ap counts_in c.in_ok-push.ensures.items ∙ map-append (λ (x : LiveInstance). x.listeners) old _) c.self.invariant
