use Rattle.std.proofs.Common.{◌-◌}
use Rattle.evt_text.proofs.Halving.{Halved}
use Rattle.evt_text.proofs.entries.count_before.Given as goal

abbrev pub decreases-loop-low : goal.decreases-loop-low
decreases-loop-low l = l.high - l.low

abbrev pub invariant-loop-low : goal.invariant-loop-low
invariant-loop-low l = Halved l.key l.pairs l.low l.high
