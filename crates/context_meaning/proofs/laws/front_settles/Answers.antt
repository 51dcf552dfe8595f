-- The front settles.
use Rattle.context_meaning.proofs.Settling.{drained_settled, first_falls, settled_empty, settled_spent, settled_step}
use Rattle.context_meaning.proofs.laws.front_settles.Goals as goal

pub returns-clause-falls : goal.returns-clause-falls
returns-clause-falls c = first_falls

pub returns-clause-spent : goal.returns-clause-spent
returns-clause-spent c = settled_spent

pub returns-clause-empty : goal.returns-clause-empty
returns-clause-empty c = settled_empty

pub returns-clause-step : goal.returns-clause-step
returns-clause-step c = settled_step

pub returns-clause-enough : goal.returns-clause-enough
returns-clause-enough c = drained_settled
