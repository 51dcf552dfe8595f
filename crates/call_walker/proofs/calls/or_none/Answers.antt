use Rattle.value_steps.proofs.Called.{none_orderly}
use Rattle.call_walker.proofs.calls.or_none.Goals as goal

pub returns-in-None-clause-order : goal.returns-in-None-clause-order
returns-in-None-clause-order c = none_orderly
