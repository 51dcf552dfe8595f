use Rattle.std.proofs.Common.{get_or, ap, ◌∙◌, arith}
use Rattle.span_text.specs.Place.{place_after}
use Rattle.epl_lexer.proofs.Spots.{spot_more, spot_fits}
use Rattle.epl_lexer.proofs.place.spot_past.Goals as goal

pub after-spot-requires : goal.after-spot-requires
after-spot-requires c =
    let i = c.bytes.invariant in
    let low = i.1 in
    let high = c.bytes-test.true in
    let last = c.requires.order.2 in
    spot_fits c.args.text.now c.args.start c.bytes.at low (omega arith) c.bytes.spot i.0 c.requires.small

pub bytes-preserved : goal.bytes-preserved
bytes-preserved c =
    let i = c.bytes.invariant in
    let low = i.1 in
    let high = c.bytes-test.true in
    let last = c.requires.order.2 in
    (c.after-spot.ensures ∙ ap (λ b. place_after c.bytes.spot (get_or b c.bytes.at 0)) c.as_bytes-bytes.ensures.value ∙ spot_more c.args.text.now c.args.start c.bytes.at low (omega arith) c.bytes.spot i.0, omega arith, omega arith)
