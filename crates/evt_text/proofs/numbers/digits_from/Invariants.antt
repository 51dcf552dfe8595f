use Rattle.std.proofs.Common.{◌≡◌, ◌≤◌, length}
use denote.Text.{Utf8}
use denote.Shadow.{shadow}
use Rattle.evt_text.specs.Reading.{digits_from}
use Rattle.evt_text.proofs.numbers.digits_from.Given as goal

abbrev pub invariant-digits : goal.invariant-digits
invariant-digits l = shadow (Utf8 l.rest) × (l.number ≤ l.limit) × (digits_from l.limit l.number l.rest ≡ digits_from l.fn.limit l.fn.first l.fn.text)

abbrev pub decreases-digits : goal.decreases-digits
decreases-digits l = length l.rest
