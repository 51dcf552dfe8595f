use Rattle.std.proofs.Common.{◌≡◌, length}
use denote.Text.{Utf8}
use denote.Shadow.{shadow}
use Rattle.evt_reader.specs.Steps.{behind_zeros}
use Rattle.evt_reader.proofs.times.behind_zeros.Given as goal

abbrev pub invariant-zeros : goal.invariant-zeros
invariant-zeros l = shadow (Utf8 l.rest) × (behind_zeros l.rest ≡ behind_zeros l.fn.text)

abbrev pub decreases-zeros : goal.decreases-zeros
decreases-zeros l = length l.rest
