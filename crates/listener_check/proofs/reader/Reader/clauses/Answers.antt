use Rattle.listener_check.specs.Templates.{clause_read}
use Rattle.listener_check.proofs.Going.{goes-err, through_next, through_stop, through_end}
use Rattle.listener_check.proofs.reader.Reader.clauses.Goals as goal

pub loop-clause-preserved : goal.loop-clause-preserved
loop-clause-preserved c =
    through_next (clause_read c.args.self.now.table.now c.args.self.now.scope.now c.args.self.now.inner.now c.args.under_not) _ _ _ _ _ _ _ _ _ c.as_slice-clause-items.ensures c.loop-clause-test.true c.clause-item.is c.loop-clause.invariant c.in_ok-made.ensures

pub returns-in_err-made : goal.returns-in_err-made
returns-in_err-made c =
    goes-err _ _ _ _ c.from_residual.ensures.1
    (through_stop (clause_read c.args.self.now.table.now c.args.self.now.scope.now c.args.self.now.inner.now c.args.under_not) _ _ _ _ _ _ _ _ c.as_slice-clause-items.ensures c.loop-clause-test.true c.clause-item.is c.loop-clause.invariant c.in_err-made.ensures)

pub returns : goal.returns
returns c = through_end (clause_read c.args.self.now.table.now c.args.self.now.scope.now c.args.self.now.inner.now c.args.under_not) _ _ _ _ _ _ c.as_slice-clause-items.ensures c.loop-clause-test.false c.loop-clause.invariant
