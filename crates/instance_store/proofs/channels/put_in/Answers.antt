use Rattle.instance_store.proofs.Placing.{put_in, put_order}
use Rattle.instance_store.proofs.channels.put_in.Goals as goal

pub returns-clause-ok : goal.returns-clause-ok
returns-clause-ok c = put_in c.args.channel c.args.channels.now c.as_slice.result.now c.as_slice.ensures c.place_of-at.result c.insert.result c.insert.new.self c.as_str.result.now c.as_str.ensures c.place_of-at.ensures.place c.insert.ensures.ok

pub returns-clause-order : goal.returns-clause-order
returns-clause-order c = put_order c.args.channel c.args.channels.now c.insert.result c.insert.new.self c.requires (returns-clause-ok c) c.insert.ensures.err
