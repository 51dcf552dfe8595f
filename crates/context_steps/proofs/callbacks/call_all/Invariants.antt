use Rattle.std.proofs.Common.{◌≡◌, drop}
use Rattle.context_meaning.specs.Turns.{called_all}
use Rattle.context_meaning.specs.Fits.{ContextFits}
use Rattle.context_steps.specs.Calls.{listener_in}
use Rattle.context_steps.specs.Steps.{CallerFits, InRange}
use Rattle.context_steps.proofs.callbacks.call_all.Given as goal

abbrev pub invariant-completions : goal.invariant-completions
invariant-completions g l = record {
  means : called_all l.around.program.now (listener_in l.called) l.site (drop l.completion-index l.completions) l.context ≡ called_all l.around.program.now (listener_in l.called) l.site l.completions l.initial.context;
  fits : ContextFits l.around.program.now l.context;
  caller : CallerFits l.around.program.now (listener_in l.called) l.site l.context;
  small : InRange l.context;
}
