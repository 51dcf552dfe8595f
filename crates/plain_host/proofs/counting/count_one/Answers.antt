use Rattle.std.proofs.Common.{arith, rules, ◌≡◌, ◌+◌}
use Rattle.plain_host.proofs.Changing.{more_order, new_ok, new_order, raised, within}
use Rattle.plain_host.proofs.counting.count_one.Goals as goal

pub returns-then-count-eq0-clause-ok : goal.returns-then-count-eq0-clause-ok
returns-then-count-eq0-clause-ok c = new_ok c.args.channel.now c.args.slot c.args.tallies.now c.insert.result c.insert.new.self c.in_ok-channel.channel c.place_of-at.result c.amount_at-count.result c.requires c.place_of-at.ensures.place c.amount_at-count.ensures c.if-count-eq0.true c.in_ok-channel.ensures c.insert.ensures.ok

pub returns-then-count-eq0-clause-order : goal.returns-then-count-eq0-clause-order
returns-then-count-eq0-clause-order c = new_order c.args.channel.now c.args.slot c.args.tallies.now c.insert.new.self c.insert.result c.requires (returns-then-count-eq0-clause-ok c) c.insert.ensures.err

pub set_count-requires : goal.set_count-requires
set_count-requires c = within c.args.channel.now c.args.slot c.args.tallies.now c.place_of-at.result c.amount_at-count.result c.amount_at-count.ensures (let other = c.if-count-eq0.false in omega (arith, other))

pub returns-clause-ok : goal.returns-clause-ok
returns-clause-ok c =
    let more : c.in-Some.more ≡ c.amount_at-count.result + 1 = search rules in
    raised c.args.channel.now c.args.slot c.args.tallies.now c.set_count.new.tallies c.place_of-at.result c.amount_at-count.result c.in-Some.more c.place_of-at.ensures.place c.amount_at-count.ensures (let other = c.if-count-eq0.false in omega (arith, other)) more c.set_count.ensures

pub returns-clause-order : goal.returns-clause-order
returns-clause-order c = more_order c.args.channel.now c.args.slot c.args.tallies.now c.set_count.new.tallies c.requires (returns-clause-ok c)
