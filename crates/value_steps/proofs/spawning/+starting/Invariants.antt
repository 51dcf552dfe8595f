use Rattle.std.proofs.Common.{◌≡◌, ◌-◌, ◌^◌, min, sum_by, take}
use Rattle.body_meaning.specs.Effects.{starting}
use Rattle.value_steps.proofs.spawning.+starting.Given as goal

abbrev pub invariant-starting_all-loop-term : goal.invariant-starting_all-loop-term
invariant-starting_all-loop-term l = l.total ≡ min (2 ^ 64 - 1) (sum_by starting (take l.term-index l.terms))
