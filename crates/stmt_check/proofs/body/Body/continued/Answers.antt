use Rattle.stmt_check.proofs.Going.{goes_bind, goes_stop, goes_err, goes_pure, goes_tells}
use Rattle.stmt_check.proofs.body.Body.continued.Goals as goal

pub returns : goal.returns
returns c = goes_bind _ (goes_tells _ _ _ c.in_ok-in_loop.ensures) (goes_pure _ _)

pub returns-in_err-in_loop : goal.returns-in_err-in_loop
returns-in_err-in_loop c = goes_err _ c.from_residual.ensures.1 (goes_stop _ _ (goes_tells _ _ _ c.in_err-in_loop.ensures))
