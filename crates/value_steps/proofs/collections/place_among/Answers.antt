use Rattle.std.proofs.Common.{rules, arith, ◌<◌, ◌≤◌, length, sym, ◌∙◌}
use Rattle.epl_values.specs.Order.{order_of}
use Rattle.body_meaning.specs.Values.{is_equal}
use Rattle.value_steps.proofs.Placing.{fails_at, place_found, place_missing}
use Rattle.value_steps.proofs.collections.place_among.Goals as goal

pub returns-then-is_same-clause-place : goal.returns-then-is_same-clause-place
returns-then-is_same-clause-place c =
    let inside : c.loop-at.at < length c.args.items.now = search rules in
    place_found (λ value. is_equal (order_of value c.args.wanted.now)) c.args.items.now c.loop-at.at c.get.result.now inside c.get.ensures.read (sym c.is_same.ensures ∙ c.if-is_same.true) c.loop-at.invariant

pub loop-at-preserved : goal.loop-at-preserved
loop-at-preserved c =
    let inside : c.loop-at.at < length c.args.items.now = search rules in
    fails_at (λ value. is_equal (order_of value c.args.wanted.now)) c.args.items.now c.loop-at.at c.get.result.now inside c.get.ensures.read (sym c.is_same.ensures ∙ c.if-is_same.false) c.loop-at.invariant

pub returns-clause-place : goal.returns-clause-place
returns-clause-place c =
    let past : length c.args.items.now ≤ c.loop-at.at = search rules in
    place_missing (λ value. is_equal (order_of value c.args.wanted.now)) c.args.items.now c.loop-at.at past c.loop-at.invariant
