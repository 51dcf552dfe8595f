use Rattle.std.proofs.Common.{rules}
use Rattle.run_face.specs.Words.{most_fuel}
use Rattle.run_face.proofs.Fuels.{beyond}
use Rattle.run_face.proofs.words.number_within.Goals as goal

-- a number that is too much here is too much at the end
pub returns-then-number-gt20000000 : goal.returns-then-number-gt20000000
returns-then-number-gt20000000 c = beyond c.args.word.now c.digits.byte-index c.digits.number _ most_fuel (search rules) c.if-number-gt20000000.true (search rules) c.digits.invariant.0
