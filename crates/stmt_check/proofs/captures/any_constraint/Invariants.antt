use Rattle.std.proofs.Common.{◌≡◌, drop, map}
use Rattle.stmt_check.specs.Captures.{any_of, constraint_names}
use Rattle.stmt_check.proofs.captures.any_constraint.Given as goal

abbrev pub invariant-loop-constraint : goal.invariant-loop-constraint
invariant-loop-constraint l = any_of (map constraint_names l.constraints) l.name ≡ any_of (map constraint_names (drop l.constraint-index l.constraints)) l.name
