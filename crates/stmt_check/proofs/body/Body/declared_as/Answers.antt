use Rattle.stmt_check.proofs.Going.{goes_bind, goes_stop, goes_err, goes_pure, goes_given}
use Rattle.stmt_check.proofs.body.Body.declared_as.Goals as goal

pub returns : goal.returns
returns c = goes_bind _ (goes_given _ _ c.in_ok-shape.ensures) (goes_bind _ c.in_ok-new_name.ensures (goes_bind _ c.in_ok-value.ensures (goes_bind _ c.in_ok-number.ensures (goes_pure _ _))))

pub returns-in_err-shape : goal.returns-in_err-shape
returns-in_err-shape c = goes_err _ c.from_residual.ensures.1 (goes_stop _ _ (goes_given _ _ c.in_err-shape.ensures))

pub returns-in_err-new_name : goal.returns-in_err-new_name
returns-in_err-new_name c = goes_err _ c.from_residual-in_err-new_name.ensures.1 (goes_bind _ (goes_given _ _ c.in_ok-shape.ensures) (goes_stop _ _ c.in_err-new_name.ensures))

pub returns-in_err-value : goal.returns-in_err-value
returns-in_err-value c = goes_err _ c.from_residual-in_err-value.ensures.1 (goes_bind _ (goes_given _ _ c.in_ok-shape.ensures) (goes_bind _ c.in_ok-new_name.ensures (goes_stop _ _ c.in_err-value.ensures)))

pub returns-in_err-number : goal.returns-in_err-number
returns-in_err-number c = goes_err _ c.from_residual-in_err-number.ensures.1 (goes_bind _ (goes_given _ _ c.in_ok-shape.ensures) (goes_bind _ c.in_ok-new_name.ensures (goes_bind _ c.in_ok-value.ensures (goes_stop _ _ c.in_err-number.ensures))))
