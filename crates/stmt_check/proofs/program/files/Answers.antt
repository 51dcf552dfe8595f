use Rattle.stmt_check.proofs.Checking.{reads_err, files_step, files_stop, files_end}
use Rattle.stmt_check.proofs.program.files.Goals as goal

pub files-preserved : goal.files-preserved
files-preserved c = files_step c.args.table.now c.args.units.now c.files.file (rw c.as_slice-one-items.ensures at c.files-test.true) (rw c.as_slice-one-items.ensures at c.one-item.is) c.files.invariant c.in_ok-unit.ensures

pub returns-in_err-unit : goal.returns-in_err-unit
returns-in_err-unit c = reads_err c.args.table.now c.args.units.now _ _ c.from_residual.ensures.1 (files_stop c.args.table.now c.args.units.now c.files.file _ c.unit.new.made (rw c.as_slice-one-items.ensures at c.files-test.true) (rw c.as_slice-one-items.ensures at c.one-item.is) c.files.invariant c.in_err-unit.ensures)

pub returns : goal.returns
returns c = files_end c.args.table.now c.args.units.now c.files.file (rw c.as_slice-one-items.ensures at c.files-test.false) c.files.invariant
