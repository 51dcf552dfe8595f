use Rattle.std.proofs.Common.{sym, ◌∙◌}
use Rattle.std.proofs.lemmas.Bool.{eqb-false}
use Rattle.schedule_picks.proofs.Words.{one_word, cut_word}
use Rattle.schedule_picks.proofs.line.next_word.Goals as goal

-- no blank behind the word
pub returns-then-end-words : goal.returns-then-end-words
returns-then-end-words c =
    c.behind_blanks-words.ensures.words
    ∙ one_word c.behind_blanks-words.result.now c.word_len-end.result c.word_len-end.ensures.count c.if-end-words.true (eqb-false _ _ (sym c.is_empty.ensures ∙ c.if-is_empty.false))

pub returns : goal.returns
returns c =
    c.behind_blanks-words.ensures.words
    ∙ cut_word c.behind_blanks-words.result.now c.word_len-end.result c.word_len-end.ensures.count c.word_len-end.ensures.within c.if-end-words.false
    (eqb-false _ _ (sym c.is_empty.ensures ∙ c.if-is_empty.false)) c.behind_blanks-words.ensures.begins
