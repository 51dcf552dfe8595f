use Rattle.value_steps.proofs.Called.{none_orderly}
use Rattle.path_bases.proofs.base.global_base.Goals as goal

pub returns-else-number-len-clause-order : goal.returns-else-number-len-clause-order
returns-else-number-len-clause-order c = none_orderly
