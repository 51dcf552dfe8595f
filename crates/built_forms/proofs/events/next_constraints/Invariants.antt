use Rattle.std.proofs.Common.{◌≡◌, drop, map}
use Rattle.built_forms.specs.Rows.{joined, behind}
use Rattle.built_forms.specs.Events.{missing_in_constraint}
use Rattle.built_forms.proofs.events.next_constraints.Given as goal

abbrev pub invariant-constraints : goal.invariant-constraints
invariant-constraints l = behind l.found (joined (map missing_in_constraint (drop l.constraint-index l.constraints))) ≡ behind l.fn.before (joined (map missing_in_constraint l.constraints))
