use Rattle.event_texts.proofs.Having.{have_texts}
use Rattle.event_texts.proofs.laws.events_are_read_again.Goals as goal

pub returns-clause-texts : goal.returns-clause-texts
returns-clause-texts c = have_texts

pub returns-clause-spells : goal.returns-clause-spells
returns-clause-spells c = λ program typed n x h a. c.texts_are_read_again.ensures.spells program.types n x (have_texts program typed) h a

pub returns-clause-again : goal.returns-clause-again
returns-clause-again c = λ program typed names n x before rest h a. c.texts_are_read_again.ensures.again program.types n x before rest (have_texts program typed) names h a
