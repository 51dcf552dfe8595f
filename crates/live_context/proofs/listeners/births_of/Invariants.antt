use Rattle.std.proofs.Common.{◌≡◌, map, take}
use Rattle.context_meaning.specs.Listeners.{Listener}
use Rattle.live_context.proofs.listeners.births_of.Given as goal

abbrev pub invariant-loop-listener : goal.invariant-loop-listener
invariant-loop-listener l = l.births.items ≡ map (λ (x : Listener). x.birth) (take l.listener-index l.listeners)
