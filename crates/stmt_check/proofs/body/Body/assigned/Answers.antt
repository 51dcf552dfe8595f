use Rattle.stmt_check.proofs.Going.{goes_bind, goes_stop, goes_err, goes_pure, goes_looks}
use Rattle.stmt_check.proofs.body.Body.assigned.Goals as goal

pub returns : goal.returns
returns c = goes_bind _ (goes_looks _ _ c.in_ok-to.ensures) (goes_bind _ (rw c.target_shape.ensures at c.in_ok-value.ensures) (goes_pure _ _))

pub returns-in_err-to : goal.returns-in_err-to
returns-in_err-to c = goes_err _ c.from_residual.ensures.1 (goes_stop _ _ (goes_looks _ _ c.in_err-to.ensures))

pub returns-in_err-value : goal.returns-in_err-value
returns-in_err-value c = goes_err _ c.from_residual-in_err-value.ensures.1 (goes_bind _ (goes_looks _ _ c.in_ok-to.ensures) (goes_stop _ _ (rw c.target_shape.ensures at c.in_err-value.ensures)))
