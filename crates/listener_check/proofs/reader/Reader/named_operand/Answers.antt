use Rattle.listener_check.specs.Operands.{named_operand}
use Rattle.listener_check.proofs.Going.{goes-on, goes-fail, given-sound, given-refuses}
use Rattle.listener_check.proofs.reader.Reader.named_operand.Goals as goal

pub returns : goal.returns
unfolding named_operand
returns c = goes-on _ _ _ _ _ _ (given-sound _ _ _ c.in_ok-typed.ensures.0 c.in_ok-typed.ensures.1) c.operand_of.ensures

pub returns-in_err-typed : goal.returns-in_err-typed
unfolding named_operand
returns-in_err-typed c = goes-fail _ _ _ _ _ c.from_residual.ensures.1 (given-refuses _ _ _ c.in_err-typed.ensures)
