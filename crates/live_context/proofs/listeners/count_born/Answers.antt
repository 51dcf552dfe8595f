use Rattle.std.proofs.Common.{rules}
use Rattle.std.proofs.lemmas.List.Sorted.{IsPartitionPoint-from_clause}
use Rattle.live_context.specs.Order.{birth_of}
use Rattle.live_context.proofs.Searching.{before, before_first, counted}
use Rattle.live_context.proofs.listeners.count_born.Goals as goal

pub returns : goal.returns
returns c =
    let k = c.args.birth in
    let xs = c.args.listeners.now in
    let point = IsPartitionPoint-from_clause (before birth_of k) xs c.partition_point.result c.partition_point.ensures.partitioned (before_first birth_of 0 k xs c.requires) (λ a r q h. search rules) in
    counted birth_of k xs c.partition_point.result c.partition_point.ensures.bound point
