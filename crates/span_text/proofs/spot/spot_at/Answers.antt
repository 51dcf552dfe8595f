use Rattle.std.proofs.Common.{arith, length-take-le}
use Rattle.span_text.proofs.Places.{place_fits}
use Rattle.span_text.proofs.spot.spot_at.Goals as goal

pub after-spot-requires : goal.after-spot-requires
after-spot-requires c =
    let inside = c.requires.inside in
    let small = c.requires.small in
    let same = c.as_bytes.ensures.len in
    let n = length-take-le c.args.at c.as_bytes.result.now (omega arith) in
    place_fits _ _ _ c.bytes.invariant c.bytes-test.true (omega arith)
