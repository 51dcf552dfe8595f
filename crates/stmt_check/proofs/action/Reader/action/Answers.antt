use Rattle.stmt_check.specs.Actions.{action_codes, params_found}
use Rattle.stmt_check.proofs.Going.{goes_bind, goes_stop, goes_err, goes_given, goes_tells}
use Rattle.stmt_check.proofs.action.Reader.action.Goals as goal

pub returns : goal.returns
returns c = goes_bind _ (goes_tells c.args.decl.now.name.spot (action_codes c.args.self.now.table.now c.args.before.now c.args.decl.now) c.args.made.now c.in_ok-may_act.ensures) (goes_bind _ (goes_given (params_found c.args.self.now.table.now c.args.self.now.members.now c.args.decl.now.params) _ (rw c.as_slice.ensures at c.in_ok-params.ensures)) (goes_bind _ c.in_ok-shape.ensures c.body.ensures))

pub returns-in_err-may_act : goal.returns-in_err-may_act
returns-in_err-may_act c = goes_err _ c.from_residual.ensures.1 (goes_stop _ _ (goes_tells c.args.decl.now.name.spot (action_codes c.args.self.now.table.now c.args.before.now c.args.decl.now) c.args.made.now c.in_err-may_act.ensures))

pub returns-in_err-params : goal.returns-in_err-params
returns-in_err-params c = goes_err _ c.from_residual-in_err-params.ensures.1 (goes_bind _ (goes_tells c.args.decl.now.name.spot (action_codes c.args.self.now.table.now c.args.before.now c.args.decl.now) c.args.made.now c.in_ok-may_act.ensures) (goes_stop _ _ (goes_given (params_found c.args.self.now.table.now c.args.self.now.members.now c.args.decl.now.params) _ (rw c.as_slice.ensures at c.in_err-params.ensures))))

pub returns-in_err-shape : goal.returns-in_err-shape
returns-in_err-shape c = goes_err _ c.from_residual-in_err-shape.ensures.1 (goes_bind _ (goes_tells c.args.decl.now.name.spot (action_codes c.args.self.now.table.now c.args.before.now c.args.decl.now) c.args.made.now c.in_ok-may_act.ensures) (goes_bind _ (goes_given (params_found c.args.self.now.table.now c.args.self.now.members.now c.args.decl.now.params) _ (rw c.as_slice.ensures at c.in_ok-params.ensures)) (goes_stop _ _ c.in_err-shape.ensures)))
