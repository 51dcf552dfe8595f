use Rattle.value_rules.specs.Texts.{text_in}
use Rattle.evt_text.proofs.ReadAgain.{event_written, read_again}
use Rattle.evt_text.proofs.laws.texts_are_read_again.Goals as goal

pub returns-clause-spells : goal.returns-clause-spells
returns-clause-spells c = event_written

pub returns-clause-again : goal.returns-clause-again
returns-clause-again c = λ types n x before rest texts names h a. read_again types n x before (text_in types x) rest names (event_written types n x texts h a)
