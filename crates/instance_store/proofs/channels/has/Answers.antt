use Rattle.instance_store.proofs.Placing.{told_at}
use Rattle.instance_store.proofs.channels.has.Goals as goal

pub returns : goal.returns
returns c = told_at c.args.channel.now c.args.channels.now c.as_slice-seen.result.now c.as_slice-seen.ensures c.place_of.result c.is_at.result c.requires c.place_of.ensures.place c.is_at.ensures
