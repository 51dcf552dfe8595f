use Rattle.plain_host.proofs.Changing.{put_count}
use Rattle.plain_host.proofs.counting.set_count.Goals as goal

pub returns : goal.returns
returns c = put_count c.args.tallies.now c.set-channel.new.self c.set-hole.new.self c.args.at c.args.count c.set-channel.result _ c.set-channel.ensures.old c.set-channel.ensures.new c.set-hole.ensures.new
