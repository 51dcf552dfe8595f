use Rattle.stmt_check.proofs.Going.{goes_looks}
use Rattle.stmt_check.proofs.body.Body.arguments.Goals as goal

pub returns : goal.returns
returns c = goes_looks _ _ c.arguments.ensures
