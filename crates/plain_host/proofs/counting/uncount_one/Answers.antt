use Rattle.std.proofs.Common.{arith}
use Rattle.plain_host.proofs.Changing.{fewer_order, gone, lowered, none_is, within}
use Rattle.plain_host.proofs.counting.uncount_one.Goals as goal

pub returns-then-count-eq0-clause-means : goal.returns-then-count-eq0-clause-means
returns-then-count-eq0-clause-means c = none_is c.args.channel.now c.args.slot c.args.tallies.now c.place_of-at.result c.amount_at-count.result c.requires c.place_of-at.ensures.place c.amount_at-count.ensures c.if-count-eq0.true

pub remove-gone-requires : goal.remove-gone-requires
remove-gone-requires c = within c.args.channel.now c.args.slot c.args.tallies.now c.place_of-at.result c.amount_at-count.result c.amount_at-count.ensures (let other = c.if-count-eq0.false in omega (arith, other))

pub returns-then-count-eq1-clause-means : goal.returns-then-count-eq1-clause-means
returns-then-count-eq1-clause-means c = gone c.args.channel.now c.args.slot c.args.tallies.now c.remove-gone.new.self c.place_of-at.result c.amount_at-count.result c.place_of-at.ensures.place c.amount_at-count.ensures c.if-count-eq1.true c.remove-gone.ensures.rest

pub returns-then-count-eq1-clause-order : goal.returns-then-count-eq1-clause-order
returns-then-count-eq1-clause-order c = fewer_order c.args.channel.now c.args.slot c.args.tallies.now c.remove-gone.new.self c.requires (returns-then-count-eq1-clause-means c)

pub set_count-requires : goal.set_count-requires
set_count-requires c = within c.args.channel.now c.args.slot c.args.tallies.now c.place_of-at.result c.amount_at-count.result c.amount_at-count.ensures (let other = c.if-count-eq0.false in omega (arith, other))

pub returns-clause-means : goal.returns-clause-means
returns-clause-means c = lowered c.args.channel.now c.args.slot c.args.tallies.now c.set_count.new.tallies c.place_of-at.result c.amount_at-count.result c.place_of-at.ensures.place c.amount_at-count.ensures (let some = c.if-count-eq0.false in let other = c.if-count-eq1.false in omega (arith, some, other)) c.set_count.ensures

pub returns-clause-order : goal.returns-clause-order
returns-clause-order c = fewer_order c.args.channel.now c.args.slot c.args.tallies.now c.set_count.new.tallies c.requires (returns-clause-means c)
