use Rattle.listener_check.specs.Operands.{added_operand}
use Rattle.listener_check.proofs.Going.{on-part}
use Rattle.listener_check.proofs.operand.added_operand.Goals as goal

pub returns-in_ok-at-in-Some : goal.returns-in_ok-at-in-Some
unfolding added_operand
returns-in_ok-at-in-Some c = rw (c.in-Some.is, c.signed.ensures) (on-part _ _ _ _ c.in_ok-at-in-Some.ensures)
