use Rattle.stmt_check.proofs.Going.{goes_bind, goes_stop, goes_err, goes_given, goes_tells, goes_changes}
use Rattle.std.proofs.Common.{refl}
use Rattle.stmt_check.proofs.action.Reader.param.Goals as goal

pub returns : goal.returns
returns c = goes_bind _ (goes_given _ _ c.in_ok-shape.ensures) (goes_bind _ (goes_tells _ _ _ c.in_ok-may_take.ensures) (goes_changes _ _ refl))

pub returns-in_err-shape : goal.returns-in_err-shape
returns-in_err-shape c = goes_err _ c.from_residual.ensures.1 (goes_stop _ _ (goes_given _ _ c.in_err-shape.ensures))

pub returns-in_err-may_take : goal.returns-in_err-may_take
returns-in_err-may_take c = goes_err _ c.from_residual-in_err-may_take.ensures.1 (goes_bind _ (goes_given _ _ c.in_ok-shape.ensures) (goes_stop _ _ (goes_tells _ _ _ c.in_err-may_take.ensures)))
