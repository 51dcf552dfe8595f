use Rattle.std.proofs.Common.{◌≡◌, length}
use denote.Text.{Utf8}
use denote.Shadow.{shadow}
use Rattle.evt_text.specs.Reading.{behind_blanks}
use Rattle.evt_text.proofs.parts.behind_blanks.Given as goal

abbrev pub invariant-blanks : goal.invariant-blanks
invariant-blanks l = shadow (Utf8 l.rest) × (behind_blanks l.rest ≡ behind_blanks l.fn.text)

abbrev pub decreases-blanks : goal.decreases-blanks
decreases-blanks l = length l.rest
