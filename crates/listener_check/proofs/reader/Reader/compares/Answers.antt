use Rattle.listener_check.specs.Constraints.{compares_read}
use Rattle.listener_check.proofs.Going.{on-part}
use Rattle.listener_check.proofs.reader.Reader.compares.Goals as goal

pub returns : goal.returns
unfolding compares_read
returns c = on-part _ _ _ _ c.in_ok-operand.ensures
