use Rattle.listener_check.specs.Durations.{timed}
use Rattle.listener_check.proofs.Going.{on-part}
use Rattle.listener_check.proofs.duration.timed.Goals as goal

pub returns : goal.returns
unfolding timed
returns c = rw c.is_tenths-tenths.ensures (on-part _ _ _ _ c.in_ok-operand.ensures)
