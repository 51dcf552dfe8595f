use Rattle.std.proofs.Common.{rules}
use Rattle.std.proofs.lemmas.List.Sorted.{IsPartitionPoint-from_clause}
use Rattle.instance_store.specs.Places.{is_before}
use Rattle.instance_store.proofs.Placing.{parted, point}
use Rattle.instance_store.proofs.channels.place_of.Goals as goal

pub returns-clause-place : goal.returns-clause-place
returns-clause-place c =
    let p = is_before c.args.channel.now in
    let cs = c.args.channels.now in
    let at = IsPartitionPoint-from_clause p cs c.partition_point.result c.partition_point.ensures.partitioned (parted c.args.channel.now cs c.requires) (λ a r q h. search rules) in
    point p cs c.partition_point.result c.partition_point.ensures.bound at
