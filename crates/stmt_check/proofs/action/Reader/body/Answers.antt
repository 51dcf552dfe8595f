use Rattle.stmt_check.proofs.Going.{goes_err, goes_memory}
use Rattle.stmt_check.proofs.Calling.{body_done, body_stop}
use Rattle.stmt_check.proofs.action.Reader.body.Goals as goal

pub returns : goal.returns
returns c = body_done c.args.self.now.table.now c.args.before.now c.args.trees.now c.args.params c.args.shape c.args.made.now c.in_ok-state.ensures.ok c.in_ok-state.ensures.rest (rw c.around-body.ensures at c.in_ok-row.ensures) c.in_ok-finish.ensures

pub returns-in_err-state : goal.returns-in_err-state
returns-in_err-state c = goes_err _ c.from_residual.ensures.1 (goes_memory _ _ _)

pub returns-in_err-row : goal.returns-in_err-row
returns-in_err-row c = goes_err _ c.from_residual-in_err-row.ensures.1 (body_stop c.args.self.now.table.now c.args.before.now c.args.trees.now c.args.params c.args.shape c.args.made.now _ c.in_ok-state.ensures.ok c.in_ok-state.ensures.rest (rw c.around-body.ensures at c.in_err-row.ensures))

pub returns-in_err-finish : goal.returns-in_err-finish
returns-in_err-finish c = goes_err _ c.from_residual-in_err-finish.ensures.1 (goes_memory _ _ _)
