use Rattle.stmt_check.proofs.Members.{finds_err, params_step, params_stop, params_end}
use Rattle.stmt_check.proofs.action.Reader.params.Goals as goal

pub params-preserved : goal.params-preserved
params-preserved c = rw c.in_ok-push.ensures.ok (params_step c.args.self.now.table.now c.args.self.now.members.now c.args.params.now c.params.at c.params.shapes c.params-test.true c.index-params-at.is c.params.invariant c.in_ok-param.ensures)

pub returns-in_err-param : goal.returns-in_err-param
returns-in_err-param c = finds_err _ _ _ c.from_residual.ensures.1 (params_stop c.args.self.now.table.now c.args.self.now.members.now c.args.params.now c.params.at c.params.shapes _ c.params-test.true c.index-params-at.is c.params.invariant c.in_err-param.ensures)

pub returns : goal.returns
returns c = params_end c.args.self.now.table.now c.args.self.now.members.now c.args.params.now c.params.at c.params-test.false c.params.invariant
