use Rattle.std.proofs.Common.{rules, ◌∙◌}
use Rattle.std.proofs.lemmas.List.Sorted.{IsPartitionPoint-from_clause}
use Rattle.live_context.specs.declared.instances.LiveInstance.{LiveInstance}
use Rattle.live_context.specs.Order.{number_of}
use Rattle.live_context.proofs.Lists.{ascend_in, below_in}
use Rattle.live_context.proofs.Searching.{before, before_first, counted}
use Rattle.live_context.proofs.instances.count_numbered.Goals as goal

pub returns : goal.returns
returns c =
    let k = c.args.number in
    let xs = c.args.instances.now in
    let ascends = ascend_in (λ (x : LiveInstance). x.instance) number_of 0 xs c.requires in
    let point = IsPartitionPoint-from_clause (before (λ (x : LiveInstance). x.instance.number) k) xs c.partition_point.result c.partition_point.ensures.partitioned (before_first (λ (x : LiveInstance). x.instance.number) 0 k xs ascends) (λ a r q h. search rules) in
    counted (λ (x : LiveInstance). x.instance.number) k xs c.partition_point.result c.partition_point.ensures.bound point ∙ below_in (λ (x : LiveInstance). x.instance) number_of k xs
