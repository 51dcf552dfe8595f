use Rattle.std.proofs.Common.{arith, ◌+◌, ◌-◌, ◌/◌, ◌<◌, ◌≤◌, sym, subst, ◌∙◌}
use Rattle.evt_text.proofs.Halving.{Halved, halved_end, halved_lower, halved_upper, halved_whole}
use Rattle.evt_text.proofs.entries.count_before.Goals as goal

pub loop-low-init : goal.loop-low-init
loop-low-init c = subst (λ n. Halved c.args.key.now c.args.pairs.now 0 n) (sym c.len-high.ensures.count) (halved_whole c.args.key.now c.args.pairs.now)

pub loop-low-preserved-then-is_before : goal.loop-low-preserved-then-is_before
loop-low-preserved-then-is_before c =
    let m = c.loop-low.low + (c.loop-low.high - c.loop-low.low) / 2 in
    let t = c.loop-low-test.true in
    let from : c.loop-low.low ≤ m = omega (arith, t) in
    let to : m < c.loop-low.high = omega (arith, t) in
    halved_upper c.args.key.now c.args.pairs.now c.loop-low.low c.loop-low.high m c.get.result.now c.requires c.loop-low.invariant from to c.get.ensures.read (sym c.is_before.ensures ∙ c.if-is_before.true)

pub loop-low-preserved : goal.loop-low-preserved
loop-low-preserved c =
    let m = c.loop-low.low + (c.loop-low.high - c.loop-low.low) / 2 in
    let t = c.loop-low-test.true in
    let from : c.loop-low.low ≤ m = omega (arith, t) in
    let to : m < c.loop-low.high = omega (arith, t) in
    halved_lower c.args.key.now c.args.pairs.now c.loop-low.low c.loop-low.high m c.get.result.now c.requires c.loop-low.invariant from to c.get.ensures.read (sym c.is_before.ensures ∙ c.if-is_before.false)

pub returns-clause-count : goal.returns-clause-count
returns-clause-count c =
    let t = c.loop-low-test.false in
    let past : c.loop-low.high ≤ c.loop-low.low = omega (arith, t) in
    halved_end c.args.key.now c.args.pairs.now c.loop-low.low c.loop-low.high c.loop-low.invariant past

pub returns-clause-within : goal.returns-clause-within
returns-clause-within c =
    let order = c.loop-low.invariant.order in
    let within = c.loop-low.invariant.within in
    omega (arith, order, within)
