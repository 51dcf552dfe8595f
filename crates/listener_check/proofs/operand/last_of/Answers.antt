use Rattle.listener_check.proofs.Lasts.{last-popped}
use Rattle.listener_check.proofs.operand.last_of.Goals as goal

pub returns : goal.returns
returns c = last-popped _ _ _ c.pop.ensures
