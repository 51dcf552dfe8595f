use Rattle.epl_lexer.proofs.Cuts.{letter_in_word}
use Rattle.epl_lexer.proofs.word.word_at.Goals as goal

pub run_end-end-requires-clause-stands : goal.run_end-end-requires-clause-stands
run_end-end-requires-clause-stands c = letter_in_word _ _ c.requires
