use Rattle.std.proofs.Common.{◌≡◌, drop}
use Rattle.listener_check.specs.Bound.{clauses_bind}
use Rattle.listener_check.proofs.bound.Binder.template.Given as goal

abbrev pub invariant-loop-clause : goal.invariant-loop-clause
invariant-loop-clause l =
    clauses_bind l.self.table.now l.self.outer l.template.event (drop l.clause-index l.template.clauses) l.scope
    ≡ clauses_bind l.self.table.now l.self.outer l.template.event l.template.clauses l.fn.scope
