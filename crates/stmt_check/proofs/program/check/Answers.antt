use Rattle.std.proofs.Common.{refl}
use Rattle.stmt_check.proofs.Checking.{checks_done, checks_err, checks_declared, checks_members}
use Rattle.stmt_check.proofs.program.check.Goals as goal

pub returns : goal.returns
returns c = checks_done c.args.units.now _ _ c.in_ok-table.ensures c.in_ok-made.ensures refl

pub returns-in_err-table : goal.returns-in_err-table
returns-in_err-table c = checks_err c.args.units.now _ _ c.from_residual.ensures.1 (checks_declared c.args.units.now _ c.in_err-table.ensures)

pub returns-in_err-made : goal.returns-in_err-made
returns-in_err-made c = checks_err c.args.units.now _ _ c.from_residual-in_err-made.ensures.1 (checks_members c.args.units.now _ _ c.in_ok-table.ensures c.in_err-made.ensures)
