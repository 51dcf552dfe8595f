use Rattle.std.proofs.Common.{◌≤◌, length, arith}
use Rattle.crossbeam_queue.specs.Passes.{view}
use Rattle.mailbox.proofs.Leaving.{settles, whole_more, empties, all_taken}
use Rattle.mailbox.proofs.Steps.{takes}
use Rattle.mailbox.proofs.closing.drain.Goals as goal

pub len_as-most-requires-clause-rule : goal.len_as-most-requires-clause-rule
len_as-most-requires-clause-rule g c = settles g.E.Sent.sender_of _ _ c.requires.taker.1 c.requires.all_in

pub pop_as-requires-clause-rule : goal.pop_as-requires-clause-rule
pop_as-requires-clause-rule g c =
    let s = g.E.Sent.sender_of in
    let kept = c.loop-turn.invariant in
    let first = view c.args.taker.now in
    let whole = whole_more s first (view c.len_as-most.new.pass) (view c.loop-turn.taker) c.loop-turn.room.items c.len_as-most.ensures.queue.1 kept.1 c.requires.all_in in
    (takes s _ _ kept.0.1, settles s _ _ kept.0.1 whole)

pub returns-in-None : goal.returns-in-None
returns-in-None g c =
    let s = g.E.Sent.sender_of in
    let kept = c.loop-turn.invariant in
    let held = c.in-None.ensures.rule.1 in
    empties s (view c.args.taker.now) (view c.len_as-most.new.pass) (view c.loop-turn.taker) c.loop-turn.room.items held.0 c.len_as-most.ensures.queue.1 kept.1 held.1 held.2

pub learn_as-requires-clause-rule : goal.learn_as-requires-clause-rule
learn_as-requires-clause-rule g c =
    let s = g.E.Sent.sender_of in
    let kept = c.loop-turn.invariant in
    settles s _ _ kept.0.1 (whole_more s (view c.args.taker.now) (view c.len_as-most.new.pass) (view c.loop-turn.taker) c.loop-turn.room.items c.len_as-most.ensures.queue.1 kept.1 c.requires.all_in)

pub returns : goal.returns
returns g c =
    let s = g.E.Sent.sender_of in
    let kept = c.loop-turn.invariant in
    let most = c.len_as-most.ensures.rule in
    let before = most.1 in
    let after = c.learn_as.ensures.rule in
    let few : length before.0 ≤ length c.loop-turn.room.items =
    let a = most.0 in let b = before.1 in let n = kept.2 in let cap = c.capacity-turn-end.ensures in let done = c.loop-turn-test.false in omega arith in
    all_taken s (view c.args.taker.now) (view c.len_as-most.new.pass) (view c.loop-turn.taker) c.loop-turn.room.items before.0 after.0 c.len_as-most.ensures.queue.1 kept.1 before.2 after.1 few
