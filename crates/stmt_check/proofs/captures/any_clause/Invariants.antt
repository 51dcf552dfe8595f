use Rattle.std.proofs.Common.{◌≡◌, drop, map}
use Rattle.stmt_check.specs.Captures.{any_of, clause_names}
use Rattle.stmt_check.proofs.captures.any_clause.Given as goal

abbrev pub invariant-loop-clause : goal.invariant-loop-clause
invariant-loop-clause l = any_of (map clause_names l.clauses) l.name ≡ any_of (map clause_names (drop l.clause-index l.clauses)) l.name
