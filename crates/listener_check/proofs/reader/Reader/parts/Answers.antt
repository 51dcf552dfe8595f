use Rattle.std.proofs.Common.{◌∙◌}
use Rattle.listener_check.specs.Templates.{parts_read}
use Rattle.listener_check.proofs.Going.{on-part, goes-on, goes-fail}
use Rattle.listener_check.proofs.reader.Reader.parts.Goals as goal

pub returns : goal.returns
unfolding parts_read
returns c = on-part _ _ _ _ c.in_ok-done.ensures ∙ on-part _ _ _ _ c.in_ok-made.ensures

pub returns-in_err-made : goal.returns-in_err-made
unfolding parts_read
returns-in_err-made c = goes-on _ _ _ _ _ _ c.in_ok-done.ensures (goes-fail _ _ _ _ _ c.from_residual-in_err-made.ensures.1 c.in_err-made.ensures)
