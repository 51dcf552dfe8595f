use Rattle.std.proofs.Common.{arith}
use Rattle.plain_host.proofs.Leading.{leading}
use Rattle.plain_host.proofs.counting.count_targets.Goals as goal

pub overflow_sub-result : goal.overflow_sub-result
overflow_sub-result c = let e = leading c.args.channel.now c.args.tallies.now c.requires in let up = c.count_up_to.ensures in let before = c.count_before.ensures in omega (arith, e, up, before)

pub returns : goal.returns
returns c = let e = leading c.args.channel.now c.args.tallies.now c.requires in let up = c.count_up_to.ensures in let before = c.count_before.ensures in omega (arith, e, up, before)
