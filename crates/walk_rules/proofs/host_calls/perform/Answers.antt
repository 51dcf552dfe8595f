use Rattle.walk_rules.proofs.Binding.{walks_nothing, walks_gives, walks_fails}
use Rattle.walk_rules.proofs.host_calls.perform.Goals as goal

pub returns-in-Nothing : goal.returns-in-Nothing
returns-in-Nothing g c = λ frame. walks_nothing frame (rw c.in-Nothing.is at c.in_ok-answer.ensures)

pub returns-in-Gives : goal.returns-in-Gives
returns-in-Gives g c = λ frame. walks_gives frame (rw c.in-Gives.is at c.in_ok-answer.ensures)

pub returns-in-Fails : goal.returns-in-Fails
returns-in-Fails g c = λ frame. walks_fails frame (rw c.in-Fails.is at c.in_ok-answer.ensures)
