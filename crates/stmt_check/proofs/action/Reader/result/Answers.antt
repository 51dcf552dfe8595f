use Rattle.stmt_check.proofs.Going.{goes_err, goes_given, goes_none, goes_some, goes_some_err}
use Rattle.stmt_check.proofs.action.Reader.result.Goals as goal

pub returns-in_ok-shape_of-in-Some : goal.returns-in_ok-shape_of-in-Some
returns-in_ok-shape_of-in-Some c = rw c.in-Some.is (goes_some (goes_given _ _ c.in_ok-shape_of-in-Some.ensures))

pub returns-in_err-shape_of-in-Some : goal.returns-in_err-shape_of-in-Some
returns-in_err-shape_of-in-Some c = rw c.in-Some.is (goes_err _ c.from_residual.ensures.1 (goes_some_err _ (goes_given _ _ c.in_err-shape_of-in-Some.ensures)))

pub returns-in-None : goal.returns-in-None
returns-in-None c = rw c.in-None.is (goes_none _)
