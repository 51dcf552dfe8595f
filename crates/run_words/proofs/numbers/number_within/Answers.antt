use Rattle.std.proofs.Common.{rules}
use Rattle.run_words.proofs.Values.{beyond}
use Rattle.run_words.proofs.numbers.number_within.Goals as goal

-- a number that is too much here is too much at the end
pub returns-then-number-most : goal.returns-then-number-most
returns-then-number-most c = beyond c.args.word.now c.digits.byte-index c.digits.number _ c.args.most (search rules) c.if-number-most.true (search rules) c.digits.invariant.0
