use Rattle.stmt_check.proofs.Going.{goes_pure}
use Rattle.stmt_check.proofs.program.declaration.Goals as goal

pub returns-in-Event : goal.returns-in-Event
returns-in-Event c = rw c.in-Event.is (goes_pure _ _)
