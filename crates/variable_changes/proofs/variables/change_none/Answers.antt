use Rattle.value_steps.proofs.Called.{none_orderly}
use Rattle.variable_changes.proofs.variables.change_none.Goals as goal

pub make-requires-clause-whole : goal.make-requires-clause-whole
make-requires-clause-whole c = none_orderly
