use Rattle.stmt_check.proofs.Going.{goes_bind, goes_stop, goes_err, goes_pure, goes_tells}
use Rattle.stmt_check.proofs.body.Body.begun.Goals as goal

pub returns : goal.returns
returns c = goes_bind _ (goes_tells _ _ _ c.in_ok-may_spawn.ensures) (goes_bind _ c.in_ok-args.ensures (goes_bind _ c.in_ok-to.ensures (goes_pure _ _)))

pub returns-in_err-may_spawn : goal.returns-in_err-may_spawn
returns-in_err-may_spawn c = goes_err _ c.from_residual.ensures.1 (goes_stop _ _ (goes_tells _ _ _ c.in_err-may_spawn.ensures))

pub returns-in_err-args : goal.returns-in_err-args
returns-in_err-args c = goes_err _ c.from_residual-in_err-args.ensures.1 (goes_bind _ (goes_tells _ _ _ c.in_ok-may_spawn.ensures) (goes_stop _ _ c.in_err-args.ensures))

pub returns-in_err-to : goal.returns-in_err-to
returns-in_err-to c = goes_err _ c.from_residual-in_err-to.ensures.1 (goes_bind _ (goes_tells _ _ _ c.in_ok-may_spawn.ensures) (goes_bind _ c.in_ok-args.ensures (goes_stop _ _ c.in_err-to.ensures)))
