use Rattle.value_steps.proofs.Called.{changed_orderly, dictionary_orderly, sequence_orderly}
use Rattle.value_steps.proofs.Kept.{part_orderly, stored_orderly, with_part_orderly}
use Rattle.value_steps.proofs.StillOrderly.{emptied_orderly}
use Rattle.value_steps.proofs.laws.order_is_kept.Goals as goal

pub returns-clause-parts : goal.returns-clause-parts
returns-clause-parts c = part_orderly

pub returns-clause-whole : goal.returns-clause-whole
returns-clause-whole c = with_part_orderly

pub returns-clause-sequences : goal.returns-clause-sequences
returns-clause-sequences c = sequence_orderly

pub returns-clause-dictionaries : goal.returns-clause-dictionaries
returns-clause-dictionaries c = dictionary_orderly

pub returns-clause-stores : goal.returns-clause-stores
returns-clause-stores c = stored_orderly

pub returns-clause-emptied : goal.returns-clause-emptied
returns-clause-emptied c = emptied_orderly

pub returns-clause-methods : goal.returns-clause-methods
returns-clause-methods c = changed_orderly
