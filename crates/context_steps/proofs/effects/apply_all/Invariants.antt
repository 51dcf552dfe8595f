use Rattle.std.proofs.Common.{◌≡◌}
use Rattle.context_meaning.specs.Ends.{apply_all}
use Rattle.context_steps.proofs.effects.apply_all.Given as goal

abbrev pub invariant-loop-effect : goal.invariant-loop-effect
invariant-loop-effect l = l.context ≡ apply_all l.program l.instance l.ending l.yielded l.initial.context
