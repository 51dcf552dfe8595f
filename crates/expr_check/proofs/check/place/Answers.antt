use Rattle.std.proofs.Common.{Ok, refl, sym}
use Rattle.expr_rules.proofs.Then.{arm_err, arm_ok}
use Rattle.expr_check.proofs.Parts.{target_is}
use Rattle.expr_check.proofs.check.place.Goals as goal

pub returns-in_err-walk : goal.returns-in_err-walk
returns-in_err-walk c = arm_err _ _ _ _ _ (target_is c.args.table.now c.args.scope.now c.args.tree.now c.leads-changed.result c.leads-changed.ensures) c.from_residual.ensures.1 c.in_err-walk.ensures

pub returns : goal.returns
returns c = arm_ok (Ok c.target_of.result) c.in_ok-walk.walk _ _ _ (target_is c.args.table.now c.args.scope.now c.args.tree.now c.leads-changed.result c.leads-changed.ensures) (refl, sym c.target_of.ensures) c.in_ok-walk.ensures
