use Rattle.std.proofs.Common.{true, false}
use Rattle.instance_store.proofs.Placing.{fewer_order, kept, taken, told_at}
use Rattle.instance_store.proofs.channels.take_out.Goals as goal

pub returns-then-is_at-clause-answer : goal.returns-then-is_at-clause-answer
returns-then-is_at-clause-answer c = told_at c.args.channel.now c.args.channels.now c.as_slice-seen.result.now c.as_slice-seen.ensures c.place_of-at.result true c.requires c.place_of-at.ensures.place c.if-is_at.ensures

pub returns-then-is_at-clause-after : goal.returns-then-is_at-clause-after
returns-then-is_at-clause-after c = taken c.args.channel.now c.args.channels.now c.as_slice-seen.result.now c.as_slice-seen.ensures c.place_of-at.result c.remove-gone.new.self c.place_of-at.ensures.place c.if-is_at.ensures c.remove-gone.ensures.rest

pub returns-then-is_at-clause-order : goal.returns-then-is_at-clause-order
returns-then-is_at-clause-order c = fewer_order c.args.channel.now c.args.channels.now c.remove-gone.new.self c.requires (returns-then-is_at-clause-after c)

pub returns-else-is_at-clause-answer : goal.returns-else-is_at-clause-answer
returns-else-is_at-clause-answer c = told_at c.args.channel.now c.args.channels.now c.as_slice-seen.result.now c.as_slice-seen.ensures c.place_of-at.result false c.requires c.place_of-at.ensures.place c.if-is_at.ensures

pub returns-else-is_at-clause-after : goal.returns-else-is_at-clause-after
returns-else-is_at-clause-after c = kept c.args.channel.now c.args.channels.now c.as_slice-seen.result.now c.as_slice-seen.ensures c.place_of-at.result c.requires c.place_of-at.ensures.place c.if-is_at.ensures
