use Rattle.listener_check.specs.Operands.{given_operand}
use Rattle.listener_check.proofs.Going.{on-part}
use Rattle.listener_check.proofs.operand.given_operand.Goals as goal

pub returns : goal.returns
unfolding given_operand
returns c = on-part _ _ _ _ c.in_ok-at.ensures
