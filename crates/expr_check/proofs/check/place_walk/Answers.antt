use Rattle.expr_rules.proofs.Then.{arm_err, arm_ok}
use Rattle.expr_check.proofs.Parts.{place_is}
use Rattle.expr_check.proofs.check.place_walk.Goals as goal

pub returns-in_err-judged : goal.returns-in_err-judged
returns-in_err-judged c = arm_err _ _ _ _ _ (place_is c.args.table.now c.args.scope.now c.args.tree.now c.args.changed) c.from_residual.ensures.1 c.in_err-judged.ensures

pub returns : goal.returns
returns c = arm_ok _ _ _ _ _ (place_is c.args.table.now c.args.scope.now c.args.tree.now c.args.changed) c.place_rest.ensures c.in_ok-judged.ensures
