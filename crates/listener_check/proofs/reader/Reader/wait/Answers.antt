use Rattle.std.proofs.Common.{◌∙◌}
use Rattle.listener_check.specs.Terms.{wait_read}
use Rattle.listener_check.proofs.Going.{on-part, goes-on, goes-fail}
use Rattle.listener_check.proofs.reader.Reader.wait.Goals as goal

pub returns : goal.returns
unfolding wait_read
returns c = on-part _ _ _ _ c.in_ok-count_leaf.ensures ∙ on-part _ _ _ _ c.in_ok-timed.ensures

pub returns-in_err-timed : goal.returns-in_err-timed
unfolding wait_read
returns-in_err-timed c = goes-on _ _ _ _ _ _ c.in_ok-count_leaf.ensures (goes-fail _ _ _ _ _ c.from_residual-in_err-timed.ensures.1 c.in_err-timed.ensures)
