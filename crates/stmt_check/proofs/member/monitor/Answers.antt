use Rattle.stmt_check.proofs.Going.{goes_bind, goes_stop, goes_err, goes_memory, goes_change}
use Rattle.std.proofs.Common.{refl}
use Rattle.stmt_check.proofs.member.monitor.Goals as goal

pub returns : goal.returns
returns c = goes_bind _ (rw c.as_slice.ensures at c.in_ok-members.ensures) (goes_change _ _ _ refl c.in_ok-add_monitor.ensures)

pub returns-in_err-members : goal.returns-in_err-members
returns-in_err-members c = goes_err _ c.from_residual.ensures.1 (goes_stop _ _ (rw c.as_slice.ensures at c.in_err-members.ensures))

pub returns-in_err-add_monitor : goal.returns-in_err-add_monitor
returns-in_err-add_monitor c = goes_err _ c.from_residual-in_err-add_monitor.ensures.1 (goes_memory _ _ _)
