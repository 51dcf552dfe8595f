use Rattle.std.proofs.Common.{◌≡◌, drop, false}
use Rattle.context_meaning.specs.Turns.{turn}
use Rattle.context_meaning.specs.Fits.{ContextFits}
use Rattle.context_steps.specs.Calls.{turned_to}
use Rattle.context_steps.specs.Steps.{InRange}
use Rattle.context_steps.proofs.turns.step_all.Given as goal

abbrev pub invariant-births : goal.invariant-births
invariant-births g l = record {
  means : turn l.around.program.now l.stimulus (drop l.birth-index l.births) (turned_to l.context l.fitted) ≡ turn l.around.program.now l.stimulus l.births (turned_to l.initial.context false);
  fits : ContextFits l.around.program.now l.context;
  small : InRange l.context;
}
