use Rattle.value_steps.proofs.Called.{none_orderly}
use Rattle.walk_methods.proofs.Costing.{walks_lost_copy, walks_lost_by}
use Rattle.walk_methods.proofs.methods.lost.Goals as goal

pub returns-in-Ok-clause-means : goal.returns-in-Ok-clause-means
returns-in-Ok-clause-means c = λ told frame. walks_lost_copy c.args.method c.args.arguments c.args.value.now c.in_ok-changed.changed c.alter.new.value told frame c.in_ok-changed.ensures c.in-Ok.ensures.done

pub returns-in-Ok-clause-order : goal.returns-in-Ok-clause-order
returns-in-Ok-clause-order c = none_orderly

pub returns-clause-means : goal.returns-clause-means
returns-clause-means c = λ told frame. walks_lost_by c.args.method c.args.arguments c.args.value.now c.in_ok-changed.changed c.alter.new.value c.in-Err.trouble c.stop_of.result told frame c.in_ok-changed.ensures c.stop_of.ensures c.in-Err.ensures.done
