-- A faithful record, in its own words and in the theory's.
use Rattle.naive_meaning.proofs.Backing.{words-faithful}
use Rattle.naive_meaning.proofs.Wording.{faithful-words}
use Rattle.naive_meaning.proofs.laws.faithful_in_words.Goals as goal

pub returns-clause-words : goal.returns-clause-words
returns-clause-words c = faithful-words

pub returns-clause-back : goal.returns-clause-back
returns-clause-back c = words-faithful
