use Rattle.listener_check.specs.Durations.{duration_read}
use Rattle.listener_check.proofs.Going.{goes-on, goes-fail, given-sound, given-refuses}
use Rattle.listener_check.proofs.reader.Reader.duration.Goals as goal

pub returns : goal.returns
unfolding duration_read
returns c = goes-on _ _ _ _ _ _ c.in_ok-count_sum.ensures (goes-on _ _ _ _ _ _ (given-sound _ _ _ c.in_ok-typed.ensures.0 c.in_ok-typed.ensures.1) c.timed.ensures)

pub returns-in_err-typed : goal.returns-in_err-typed
unfolding duration_read
returns-in_err-typed c = goes-on _ _ _ _ _ _ c.in_ok-count_sum.ensures (goes-fail _ _ _ _ _ c.from_residual-in_err-typed.ensures.1 (given-refuses _ _ _ c.in_err-typed.ensures))
