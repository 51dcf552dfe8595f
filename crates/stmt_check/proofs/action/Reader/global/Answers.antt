use Rattle.stmt_check.proofs.Going.{goes_bind, goes_stop, goes_err, goes_memory, goes_given, goes_tells, goes_change}
use Rattle.std.proofs.Common.{refl}
use Rattle.stmt_check.proofs.action.Reader.global.Goals as goal

pub returns : goal.returns
returns c = goes_bind _ (goes_given _ _ c.in_ok-shape.ensures) (goes_bind _ (goes_tells _ _ _ c.in_ok-may_hold.ensures) (goes_bind _ c.in_ok-initial.ensures (goes_change _ _ _ refl c.in_ok-add_global.ensures)))

pub returns-in_err-shape : goal.returns-in_err-shape
returns-in_err-shape c = goes_err _ c.from_residual.ensures.1 (goes_stop _ _ (goes_given _ _ c.in_err-shape.ensures))

pub returns-in_err-may_hold : goal.returns-in_err-may_hold
returns-in_err-may_hold c = goes_err _ c.from_residual-in_err-may_hold.ensures.1 (goes_bind _ (goes_given _ _ c.in_ok-shape.ensures) (goes_stop _ _ (goes_tells _ _ _ c.in_err-may_hold.ensures)))

pub returns-in_err-initial : goal.returns-in_err-initial
returns-in_err-initial c = goes_err _ c.from_residual-in_err-initial.ensures.1 (goes_bind _ (goes_given _ _ c.in_ok-shape.ensures) (goes_bind _ (goes_tells _ _ _ c.in_ok-may_hold.ensures) (goes_stop _ _ c.in_err-initial.ensures)))

pub returns-in_err-add_global : goal.returns-in_err-add_global
returns-in_err-add_global c = goes_err _ c.from_residual-in_err-add_global.ensures.1 (goes_memory _ _ _)
