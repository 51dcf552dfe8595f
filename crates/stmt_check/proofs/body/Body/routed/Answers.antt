use Rattle.stmt_check.proofs.Going.{goes_bind, goes_stop, goes_err, goes_pure}
use Rattle.stmt_check.proofs.body.Body.routed.Goals as goal

pub returns : goal.returns
returns c = goes_bind _ c.in_ok-value.ensures (goes_pure _ _)

pub returns-in_err-value : goal.returns-in_err-value
returns-in_err-value c = goes_err _ c.from_residual.ensures.1 (goes_stop _ _ c.in_err-value.ensures)
