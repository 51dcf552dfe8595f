use Rattle.std.proofs.Common.{◌≡◌, map, take}
use Rattle.value_steps.proofs.collections.copy_keys.Given as goal

abbrev pub invariant-loop-at : goal.invariant-loop-at
invariant-loop-at l = l.keys ≡ map (λ pair. pair.key) (take l.at l.pairs)
