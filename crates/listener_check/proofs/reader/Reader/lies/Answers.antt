use Rattle.std.proofs.Common.{◌∙◌}
use Rattle.listener_check.specs.Constraints.{lies_read}
use Rattle.listener_check.proofs.Going.{on-part, goes-on, goes-fail}
use Rattle.listener_check.proofs.reader.Reader.lies.Goals as goal

pub returns : goal.returns
unfolding lies_read
returns c = on-part _ _ _ _ c.in_ok-low.ensures ∙ on-part _ _ _ _ c.in_ok-high.ensures

pub returns-in_err-high : goal.returns-in_err-high
unfolding lies_read
returns-in_err-high c = goes-on _ _ _ _ _ _ c.in_ok-low.ensures (goes-fail _ _ _ _ _ c.from_residual-in_err-high.ensures.1 c.in_err-high.ensures)
