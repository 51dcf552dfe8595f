use Rattle.std.proofs.Common.{subst}
use Rattle.body_meaning.specs.Paths.{altered, put, stored}
use Rattle.value_steps.specs.Changed.{Leaves}
use Rattle.value_steps.proofs.Kept.{leaves_orderly, stored_orderly}
use Rattle.value_steps.proofs.Left.{stored_left}
use Rattle.value_steps.proofs.changes.store.Goals as goal

pub returns-clause-done : goal.returns-clause-done
returns-clause-done c =
    let cut = c.in-Some.ensures in
    let changed = subst (λ ms. Leaves c.change_at.result c.change_at.new.value c.args.value.now (altered ms (put c.in-Some.last c.args.part) c.args.value.now)) c.as_slice.ensures c.change_at.ensures in
    stored_left c.change_at.result c.args.value.now c.change_at.new.value c.args.moves c.pop.new.self c.in-Some.last c.args.part cut changed

pub returns-clause-order : goal.returns-clause-order
returns-clause-order c = leaves_orderly c.change_at.result c.change_at.new.value c.args.value.now (stored c.args.moves c.args.part c.args.value.now) (returns-clause-done c) c.requires.whole (λ w h. stored_orderly c.args.moves c.args.part c.requires.moved c.requires.stored c.args.value.now w c.requires.whole h)
