use Rattle.stmt_check.proofs.Going.{goes_err, goes_none, goes_some, goes_some_err}
use Rattle.stmt_check.proofs.action.Reader.maybe_initial.Goals as goal

pub returns-in_ok-initial-in-Some : goal.returns-in_ok-initial-in-Some
returns-in_ok-initial-in-Some c = rw c.in-Some.is (goes_some c.in_ok-initial-in-Some.ensures)

pub returns-in_err-initial-in-Some : goal.returns-in_err-initial-in-Some
returns-in_err-initial-in-Some c = rw c.in-Some.is (goes_err _ c.from_residual.ensures.1 (goes_some_err _ c.in_err-initial-in-Some.ensures))

pub returns-in-None : goal.returns-in-None
returns-in-None c = rw c.in-None.is (goes_none _)
