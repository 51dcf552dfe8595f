use Rattle.std.proofs.Common.{◌≤◌, arith}
use Rattle.listener_check.proofs.Digits.{small-number}
use Rattle.listener_check.proofs.duration.number_of.Goals as goal

pub overflow_mul-number : goal.overflow_mul-number
overflow_mul-number c = let inside : c.loop-digit.digit-index ≤ 12 = omega arith in omega (arith, small-number c.loop-digit.number c.loop-digit.digit-index c.loop-digit.invariant.small inside)

pub overflow_add-number : goal.overflow_add-number
overflow_add-number c = let inside : c.loop-digit.digit-index ≤ 12 = omega arith in omega (arith, small-number c.loop-digit.number c.loop-digit.digit-index c.loop-digit.invariant.small inside, c.digit_of.ensures.small)

pub returns-clause-small : goal.returns-clause-small
returns-clause-small c = let inside : c.loop-digit.digit-index ≤ 12 = omega (arith, c.loop-digit.invariant.inside, c.requires) in omega (arith, small-number c.loop-digit.number c.loop-digit.digit-index c.loop-digit.invariant.small inside)
