use Rattle.std.proofs.Common.{ap, ◌∙◌}
use Rattle.crossbeam_queue.specs.Passes.{view}
use Rattle.mailbox.proofs.PassLists.{next_pass, next_number, one_more}
use Rattle.mailbox.proofs.closing.hand_all_in.Goals as goal

pub hand_in-requires-clause-passes : goal.hand_in-requires-clause-passes
hand_in-requires-clause-passes g c =
    let kept = c.loop-turn.invariant in
    let own = c.requires.passes _ _ (next_pass _ _ _ (view c.args.taker.now) _ _ kept.1 c.remove-pass.ensures.item) in
    (kept.0.0, own.0.0)

pub hand_in-requires-clause-roles : goal.hand_in-requires-clause-roles
hand_in-requires-clause-roles g c =
    let kept = c.loop-turn.invariant in
    let own = c.requires.passes _ _ (next_pass _ _ _ (view c.args.taker.now) _ _ kept.1 c.remove-pass.ensures.item) in
    (kept.0.1, own.0.1)

pub hand_in-requires-clause-next : goal.hand_in-requires-clause-next
hand_in-requires-clause-next g c =
    let kept = c.loop-turn.invariant in
    let own = c.requires.passes _ _ (next_pass _ _ _ (view c.args.taker.now) _ _ kept.1 c.remove-pass.ensures.item) in
    own.1 ∙ next_number _ _ _ (view c.args.taker.now) _ _ kept.1 c.remove-pass.ensures.item

pub loop-turn-preserved : goal.loop-turn-preserved
loop-turn-preserved g c =
    let kept = c.loop-turn.invariant in
    let made = c.hand_in.ensures in
    ((made.pass, ap (λ v. v.takes) made.view ∙ kept.0.1), one_more _ _ _ _ (view c.args.taker.now) _ _ _ kept.1 c.remove-pass.ensures.item c.remove-pass.ensures.rest made.view)
