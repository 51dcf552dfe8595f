use Rattle.std.proofs.Common.{◌≡◌, length}
use denote.Text.{Utf8}
use denote.Shadow.{shadow}
use Rattle.evt_reader.specs.Steps.{behind_digits}
use Rattle.evt_reader.proofs.times.behind_digits.Given as goal

abbrev pub invariant-digits : goal.invariant-digits
invariant-digits l = shadow (Utf8 l.rest) × (behind_digits l.rest ≡ behind_digits l.fn.text)

abbrev pub decreases-digits : goal.decreases-digits
decreases-digits l = length l.rest
