use Rattle.stmt_check.proofs.Going.{goes_bind, goes_stop, goes_err, goes_pure}
use Rattle.stmt_check.proofs.body.Body.called.Goals as goal

pub returns : goal.returns
returns c = goes_bind _ c.in_ok-call.ensures (goes_pure _ _)

pub returns-in_err-call : goal.returns-in_err-call
returns-in_err-call c = goes_err _ c.from_residual.ensures.1 (goes_stop _ _ c.in_err-call.ensures)
