use Rattle.std.proofs.Common.{◌∙◌, sym}
use Rattle.listener_check.specs.Constraints.{placed_read}
use Rattle.listener_check.proofs.Going.{on-part, behind-sound, told-none}
use Rattle.listener_check.proofs.reader.Reader.placed_constraint.Goals as goal

pub returns : goal.returns
unfolding placed_read
returns c = rw c.short.ensures (behind-sound _ _ _ _ (told-none _ _ _ (sym c.is_refused.ensures ∙ c.if-is_refused.false)) (on-part _ _ _ _ c.in_ok-node.ensures))
