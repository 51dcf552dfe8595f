use Rattle.walk_methods.proofs.Costing.{called_of}
use Rattle.walk_methods.proofs.methods.method.Goals as goal

pub returns-clause-means : goal.returns-clause-means
returns-clause-means g c = λ v s frame. called_of c.args.types.now c.args.method v c.in_ok-value.value.now c.args.arguments (c.in_ok-value.ensures.value v s) (c.called.ensures.means frame)
