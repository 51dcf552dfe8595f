use Rattle.std.proofs.Common.{refl}
use Rattle.stmt_check.proofs.Going.{goes_err, goes_memory, goes_change}
use Rattle.stmt_check.proofs.body.Body.local.Goals as goal

pub returns : goal.returns
returns c = goes_change _ _ _ refl c.in_ok-add_local.ensures

pub returns-in_err-add_local : goal.returns-in_err-add_local
returns-in_err-add_local c = goes_err _ c.from_residual.ensures.1 (goes_memory _ _ _)
