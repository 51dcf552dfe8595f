use Rattle.std.proofs.Common.{◌≡◌, take}
use Rattle.span_text.specs.Place.{place_of}
use Rattle.span_text.proofs.spot.spot_at.Given as goal

abbrev pub invariant-bytes : goal.invariant-bytes
invariant-bytes l = l.spot ≡ place_of (take l.byte-index l.before)
