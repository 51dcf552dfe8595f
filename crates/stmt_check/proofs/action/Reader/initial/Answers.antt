use Rattle.stmt_check.proofs.Going.{goes_err, goes_memory, goes_looks}
use Rattle.stmt_check.proofs.action.Reader.initial.Goals as goal

pub returns : goal.returns
returns c = goes_looks _ _ (rw c.in_ok-scope.ensures at c.judge.ensures)

pub returns-in_err-scope : goal.returns-in_err-scope
returns-in_err-scope c = goes_err _ c.from_residual.ensures.1 (goes_memory _ _ _)
