use Rattle.std.proofs.Common.{◌≡◌, drop}
use Rattle.listener_check.specs.Constraints.{constraint_step, constraints_read}
use Rattle.listener_check.specs.Went.{through}
use Rattle.listener_check.proofs.reader.Reader.constraints.Given as goal

abbrev pub invariant-loop-constraint : goal.invariant-loop-constraint
invariant-loop-constraint l =
    through (constraint_step l.self.table.now l.self.scope.now l.self.inner.now l.left l.fields) l.done (drop l.constraint-index l.constraints) l.sofar
    ≡ constraints_read l.self.table.now l.self.scope.now l.self.inner.now l.left l.fields l.constraints l.fn.sofar
