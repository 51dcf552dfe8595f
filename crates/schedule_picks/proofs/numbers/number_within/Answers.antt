use Rattle.std.proofs.Common.{rules, subst, ◌<◌, ◌+◌, ◌*◌}
use Rattle.schedule_picks.proofs.Values.{beyond}
use Rattle.schedule_picks.proofs.numbers.number_within.Goals as goal

-- a number that is too much here is too much at the end
pub returns-then-number-from : goal.returns-then-number-from
returns-then-number-from c =
    beyond c.args.word.now c.digits.byte-index c.digits.number (10 * c.digits.number + c.from.result) c.args.most (search rules)
    (subst (λ most. most < 10 * c.digits.number + c.from.result) c.from-in-digits.ensures c.if-number-from.true) (search rules) c.digits.invariant.0
