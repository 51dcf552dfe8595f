use Rattle.stmt_check.proofs.Going.{goes_stop, goes_tells}
use Rattle.std.proofs.Common.{refl}
use Rattle.stmt_check.proofs.body.Body.started.Goals as goal

pub returns-in-Some : goal.returns-in-Some
returns-in-Some c = rw c.in-Some.is c.begun.ensures

pub returns-in-None : goal.returns-in-None
returns-in-None c = rw c.in-None.is (goes_stop _ _ (goes_tells _ _ _ refl))
