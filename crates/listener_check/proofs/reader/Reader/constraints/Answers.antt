use Rattle.listener_check.specs.Constraints.{constraint_step}
use Rattle.listener_check.proofs.Going.{on-part, refuses-on, goes-err, through_next, through_stop, through_end}
use Rattle.listener_check.proofs.reader.Reader.constraints.Goals as goal

pub loop-constraint-preserved : goal.loop-constraint-preserved
loop-constraint-preserved c =
    rw (c.in_ok-push.ensures.ok, c.is_named_by.ensures)
    (through_next (constraint_step c.args.self.now.table.now c.args.self.now.scope.now c.args.self.now.inner.now c.args.left.now c.args.fields.now) _ _ _ _ _ _ _ _ _ c.as_slice-constraint-items.ensures c.loop-constraint-test.true c.constraint-item.is c.loop-constraint.invariant (on-part _ _ _ _ c.in_ok-typed.ensures))

pub returns-in_err-typed : goal.returns-in_err-typed
returns-in_err-typed c =
    goes-err _ _ _ _ c.from_residual.ensures.1
    (through_stop (constraint_step c.args.self.now.table.now c.args.self.now.scope.now c.args.self.now.inner.now c.args.left.now c.args.fields.now) _ _ _ _ _ _ _ _ c.as_slice-constraint-items.ensures c.loop-constraint-test.true c.constraint-item.is c.loop-constraint.invariant (refuses-on _ _ _ c.in_err-typed.ensures))

pub returns : goal.returns
returns c = through_end (constraint_step c.args.self.now.table.now c.args.self.now.scope.now c.args.self.now.inner.now c.args.left.now c.args.fields.now) _ _ _ _ _ _ c.as_slice-constraint-items.ensures c.loop-constraint-test.false c.loop-constraint.invariant
