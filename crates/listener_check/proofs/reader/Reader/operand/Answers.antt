use Rattle.listener_check.specs.Operands.{operand_read}
use Rattle.listener_check.proofs.Going.{goes-on}
use Rattle.listener_check.proofs.reader.Reader.operand.Goals as goal

pub returns : goal.returns
unfolding operand_read
returns c = goes-on _ _ _ _ _ _ c.in_ok-count_sum.ensures (rw (c.naming_of-naming.ensures, c.is_integer.ensures) at c.named_operand.ensures)
