use Rattle.stmt_check.proofs.Going.{goes_err}
use Rattle.stmt_check.proofs.Members.{declared_step, declared_stop, declared_end}
use Rattle.stmt_check.proofs.program.declarations.Goals as goal

pub declared-preserved : goal.declared-preserved
declared-preserved c = declared_step c.args.table.now c.args.declared.now c.declared.one-index (rw c.as_slice-one-items.ensures at c.declared-test.true) (rw c.as_slice-one-items.ensures at c.one-item.is) c.declared.invariant c.in_ok-declaration.ensures

pub returns-in_err-declaration : goal.returns-in_err-declaration
returns-in_err-declaration c = goes_err _ c.from_residual.ensures.1 (declared_stop c.args.table.now c.args.declared.now c.declared.one-index _ (rw c.as_slice-one-items.ensures at c.declared-test.true) (rw c.as_slice-one-items.ensures at c.one-item.is) c.declared.invariant c.in_err-declaration.ensures)

pub returns : goal.returns
returns c = declared_end c.args.table.now c.args.declared.now c.declared.one-index (rw c.as_slice-one-items.ensures at c.declared-test.false) c.declared.invariant
