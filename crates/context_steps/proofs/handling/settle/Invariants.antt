use Rattle.std.proofs.Common.{◌≡◌, ◌+◌, ◌*◌, []}
use Rattle.context_meaning.specs.Handling.{front_weight, settled}
use Rattle.context_meaning.specs.Fits.{ContextFits}
use Rattle.context_steps.specs.Steps.{InRange}
use Rattle.context_steps.proofs.handling.settle.Given as goal

abbrev pub invariant-front : goal.invariant-front
invariant-front g l = record {
  means : settled l.around.program.now l.context ≡ settled l.around.program.now l.initial.context;
  fits : ContextFits l.around.program.now l.context;
  row : l.context.row ≡ [];
  small : InRange l.context;
}

abbrev pub decreases-front : goal.decreases-front
decreases-front g l = 2 * l.context.fuel + front_weight l.context.front
