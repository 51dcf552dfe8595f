use Rattle.std.proofs.Common.{◌≡◌, drop, map}
use Rattle.built_forms.specs.Rows.{joined, behind}
use Rattle.built_forms.specs.Events.{missing_in_clause}
use Rattle.built_forms.proofs.events.next_clauses.Given as goal

abbrev pub invariant-clauses : goal.invariant-clauses
invariant-clauses l = behind l.found (joined (map missing_in_clause (drop l.clause-index l.clauses))) ≡ behind l.fn.before (joined (map missing_in_clause l.clauses))
