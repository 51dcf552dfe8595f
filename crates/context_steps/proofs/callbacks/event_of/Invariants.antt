use Rattle.std.proofs.Common.{◌≡◌, drop}
use Rattle.term_meaning.specs.Operands.{event_of}
use Rattle.context_steps.proofs.callbacks.event_of.Given as goal

abbrev pub invariant-loop-binding : goal.invariant-loop-binding
invariant-loop-binding l = event_of l.name (drop l.binding-index l.bindings) ≡ event_of l.name l.bindings
