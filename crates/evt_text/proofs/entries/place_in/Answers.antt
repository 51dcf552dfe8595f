use Rattle.std.proofs.Common.{arith, ◌<◌, ◌≤◌, length, sym, ◌∙◌}
use Rattle.evt_text.proofs.Ascending.{placed_end, placed_err, placed_ok}
use Rattle.evt_text.proofs.entries.place_in.Goals as goal
use Rattle.evt_text.proofs.entries.place_in.Goals.{else-at-len-via-then-at-len+else-is_key, else-at-len-via-else-at-len}

pub returns-then-is_key-clause-value : goal.returns-then-is_key-clause-value
returns-then-is_key-clause-value c =
    let many = c.len.ensures.count in
    let test = c.if-at-len.true in
    let inside : c.count_before-at.result < length c.args.pairs.now = omega (arith, many, test) in
    placed_ok c.args.key.now c.args.pairs.now c.count_before-at.result c.get.result.now c.count_before-at.ensures.count inside c.get.ensures.read (sym c.is_key.ensures ∙ c.if-is_key.true)

pub returns-else-at-len-clause-value : goal.returns-else-at-len-clause-value
returns-else-at-len-clause-value c =
    let many = c.len.ensures.count in
    elim c.else-at-len.branch [
      | else-at-len-via-then-at-len+else-is_key w ↦
          let test = w.if-at-len.true in
          let inside : c.count_before-at.result < length c.args.pairs.now = omega (arith, many, test) in
          placed_err c.args.key.now c.args.pairs.now c.count_before-at.result w.get.result.now c.count_before-at.ensures.count inside w.get.ensures.read (sym w.is_key.ensures ∙ w.if-is_key.false)
      | else-at-len-via-else-at-len w ↦
          let test = w.if-at-len.false in
          let past : length c.args.pairs.now ≤ c.count_before-at.result = omega (arith, many, test) in
          placed_end c.args.key.now c.args.pairs.now c.count_before-at.result c.count_before-at.ensures.count past
    ]
