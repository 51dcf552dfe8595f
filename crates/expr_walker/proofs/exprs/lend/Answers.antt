use Rattle.path_bases.proofs.Reached.{lent_value}
use Rattle.expr_walker.proofs.Steps.{known_walks, lent_stop}
use Rattle.expr_walker.proofs.exprs.lend.Goals as goal

pub returns-in_err-settle-in_default : goal.returns-in_err-settle-in_default
returns-in_err-settle-in_default c = let stopped = lent_stop c.args.globals.now c.args.base c.from_residual.result _ c.from_residual.ensures.1 c.in_err-settle-in_default.ensures.means in record { means = stopped.0; order = stopped.1 }

pub returns-in-Lent-clause-means : goal.returns-in-Lent-clause-means
returns-in-Lent-clause-means c = λ v s told frame. known_walks v c.in-Lent.value.now told frame (lent_value c.args.globals.now c.args.base v c.in-Lent.value c.in-Lent.is s)
