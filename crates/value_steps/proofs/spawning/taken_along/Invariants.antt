use Rattle.std.proofs.Common.{◌≡◌, ◌++◌, map, take}
use Rattle.body_meaning.specs.Effects.{emptied}
use Rattle.value_steps.proofs.spawning.taken_along.Given as goal

abbrev pub invariant-loop-global : goal.invariant-loop-global
invariant-loop-global l = l.along ≡ map emptied l.arguments ++ map emptied (take l.global-index l.globals)
