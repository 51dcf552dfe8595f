use Rattle.std.proofs.Common.{rules, sym, ap, subst, ◌∙◌}
use Rattle.std.proofs.lemmas.List.Sorted.{IsPartitionPoint-from_clause}
use Rattle.action_host.specs.Counts.{AreCounts}
use Rattle.plain_host.specs.Places.{in_front, is_channel_up_to}
use Rattle.plain_host.proofs.Halves.{up_to_falls, parted, point}
use Rattle.plain_host.proofs.counting.count_up_to.Goals as goal

pub returns : goal.returns
returns c =
    let p = is_channel_up_to c.args.channel.now in
    let ts = c.as_slice.result.now in
    let parts = parted p (up_to_falls c.args.channel.now) ts (subst AreCounts (sym c.as_slice.ensures) c.requires) in
    let at = IsPartitionPoint-from_clause p ts c.partition_point.result c.partition_point.ensures.partitioned parts (λ a r q h. search rules) in
    point p ts c.partition_point.result c.partition_point.ensures.bound at ∙ ap (in_front p) c.as_slice.ensures
