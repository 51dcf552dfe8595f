use Rattle.stmt_check.proofs.Going.{goes_by}
use Rattle.stmt_check.proofs.body.Body.spawned.Goals as goal

pub returns : goal.returns
returns c = goes_by _ (rw (c.action_named-action.ensures, c.as_str.ensures) at c.started.ensures)
