use Rattle.body_meaning.specs.Methods.{changed_by}
use Rattle.body_meaning.specs.Paths.{altered}
use Rattle.value_steps.proofs.Called.{changed_orderly}
use Rattle.value_steps.proofs.Kept.{altered_orderly, leaves_orderly}
use Rattle.value_steps.proofs.changes.alter.Goals as goal

pub returns-clause-order : goal.returns-clause-order
returns-clause-order c =
    let does = changed_by c.args.method c.args.arguments in
    leaves_orderly c.change_at.result c.change_at.new.value c.args.value.now (altered c.args.moves.now does c.args.value.now) c.change_at.ensures c.requires.whole (λ w h. altered_orderly c.args.moves.now does c.requires.moved (changed_orderly c.args.method c.args.arguments c.requires.taken) c.args.value.now w c.requires.whole h)
