use Rattle.std.proofs.Common.{ℕ, ◌<◌}
use Rattle.evt_reader.specs.Steps.{HasName}
use Rattle.evt_reader.proofs.events.type_of.Given as goal

abbrev pub invariant-loop-at : goal.invariant-loop-at
invariant-loop-at l = (k : ℕ) → k < l.at → HasName l.types l.name k → ⊥
