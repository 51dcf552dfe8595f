use Rattle.std.proofs.Common.{◌≡◌, drop}
use Rattle.listener_check.specs.Templates.{clause_read, clauses_read}
use Rattle.listener_check.specs.Went.{through}
use Rattle.listener_check.proofs.reader.Reader.clauses.Given as goal

abbrev pub invariant-loop-clause : goal.invariant-loop-clause
invariant-loop-clause l =
    through (clause_read l.self.table.now l.self.scope.now l.self.inner.now l.under_not) l.made (drop l.clause-index l.clauses) l.sofar
    ≡ clauses_read l.self.table.now l.self.scope.now l.self.inner.now l.under_not l.clauses l.fn.sofar
