use Rattle.std.proofs.Common.{◌<◌, ◌+◌, ◌*◌, ◌-◌, ℕ, get_or, sym, arith}
use Rattle.std.proofs.lemmas.List.{get_or_default}
use Rattle.expr_rules.proofs.Digits.{number_past}
use Rattle.expr_rules.specs.Literals.{number_of}
use Rattle.expr_rules.proofs.literals.number_within.Goals as goal

-- src/literals.rt:41:13
pub returns-then-longer-from : goal.returns-then-longer-from
returns-then-longer-from c =
    let items = c.as_bytes-digit-items.result.now in
    let at = c.digits.digit-index in
    let digit : ℕ = get_or items at 0 in
    let first = c.from.ensures in
    let second = c.from-in-digits.ensures in
    let third = c.saturating_sub.ensures in
    let fourth = c.from-in-digits-2.ensures in
    let longer = c.if-longer-from.true in
    let past : c.args.limit < c.digits.number * 10 + (digit - 48) = omega arith in
    sym (number_past c.args.limit c.digits.number items at digit (number_of c.args.digits.now) c.digits-test.true (get_or_default items at 0 digit c.digits-test.true) past c.digits.invariant.1)
