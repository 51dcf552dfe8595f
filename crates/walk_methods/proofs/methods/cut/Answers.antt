use Rattle.value_steps.proofs.Called.{text_orderly}
use Rattle.walk_methods.proofs.Costing.{walks_cut, walks_uncut}
use Rattle.walk_methods.proofs.methods.cut.Goals as goal

pub charged-requires : goal.charged-requires
charged-requires g c = text_orderly c.in-Ok.text

pub returns-in-Ok-clause-means : goal.returns-in-Ok-clause-means
returns-in-Ok-clause-means g c = λ frame. walks_cut c.args.value.now c.args.arguments.now c.first_of-from.result.now c.second_of-to.result.now c.first_of-from.ensures c.second_of-to.ensures c.in-Ok.ensures (c.charged.ensures.means frame)

pub returns-clause-means : goal.returns-clause-means
returns-clause-means g c = λ frame. walks_uncut c.args.value.now c.args.arguments.now c.first_of-from.result.now c.second_of-to.result.now c.in-Err.trouble c.stop_of.result _ frame c.first_of-from.ensures c.second_of-to.ensures c.stop_of.ensures c.in-Err.ensures
