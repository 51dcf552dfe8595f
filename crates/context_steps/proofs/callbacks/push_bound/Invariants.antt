use Rattle.std.proofs.Common.{◌≡◌, ◌++◌, drop}
use Rattle.context_meaning.specs.Listeners.{bound_from}
use Rattle.context_steps.proofs.callbacks.push_bound.Given as goal

abbrev pub invariant-loop-place : goal.invariant-loop-place
invariant-loop-place l = l.locals ++ bound_from l.types l.completion l.place (drop l.place l.bound) ≡ l.initial.locals ++ bound_from l.types l.completion 0 l.bound
