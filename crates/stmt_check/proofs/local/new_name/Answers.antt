use Rattle.std.proofs.Common.{refl}
use Rattle.stmt_check.proofs.Going.{goes_bind, goes_stop, goes_err, goes_tells, goes_change}
use Rattle.stmt_check.proofs.local.new_name.Goals as goal

pub returns : goal.returns
returns c = goes_bind _ (goes_tells _ _ _ c.in_ok-may_declare.ensures) (goes_change _ _ _ refl c.count.ensures)

pub returns-in_err-may_declare : goal.returns-in_err-may_declare
returns-in_err-may_declare c = goes_err _ c.from_residual.ensures.1 (goes_stop _ _ (goes_tells _ _ _ c.in_err-may_declare.ensures))
