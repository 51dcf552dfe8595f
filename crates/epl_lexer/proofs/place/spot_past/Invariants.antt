use Rattle.std.proofs.Common.{◌≡◌, ◌-◌, ◌≤◌}
use Rattle.std.specs.Prelude.{slice_range}
use Rattle.span_text.specs.Place.{place_of}
use Rattle.epl_lexer.proofs.place.spot_past.Given as goal

abbrev pub invariant-bytes : goal.invariant-bytes
invariant-bytes l = (l.spot ≡ place_of (slice_range l.text l.start l.at)) × (l.start ≤ l.at) × (l.at ≤ l.to)

abbrev pub decreases-bytes : goal.decreases-bytes
decreases-bytes l = l.to - l.at
