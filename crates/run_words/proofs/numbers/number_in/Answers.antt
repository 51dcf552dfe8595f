use Rattle.run_words.proofs.Values.{bounded}
use Rattle.run_words.proofs.numbers.number_in.Goals as goal

-- what is read of a number is from 1 to the most
pub returns-then-is_number-clause-bounds : goal.returns-then-is_number-clause-bounds
returns-then-is_number-clause-bounds c = bounded c.args.most c.args.word.now c.number_within.result (cc) c.number_within.ensures
