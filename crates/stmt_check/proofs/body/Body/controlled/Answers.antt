use Rattle.stmt_check.proofs.Going.{goes_bind, goes_stop, goes_err, goes_tells}
use Rattle.stmt_check.proofs.body.Body.controlled.Goals as goal

pub returns : goal.returns
returns c = goes_bind _ (goes_tells _ _ _ c.in_ok-is_control.ensures) (rw (c.first.ensures.value, c.as_slice.ensures) at c.channel.ensures)

pub returns-in_err-is_control : goal.returns-in_err-is_control
returns-in_err-is_control c = goes_err _ c.from_residual.ensures.1 (goes_stop _ _ (goes_tells _ _ _ c.in_err-is_control.ensures))
