-- Event expressions of typed programs keep the shapes of what they bind.
use Rattle.term_shapes.proofs.Stepping.{begins_fit, steps_fit}
use Rattle.term_shapes.proofs.laws.expressions_keep_shapes.Goals as goal

pub returns-clause-begins : goal.returns-clause-begins
returns-clause-begins c = begins_fit

pub returns-clause-steps : goal.returns-clause-steps
returns-clause-steps c = steps_fit
