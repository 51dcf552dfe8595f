use Rattle.stmt_check.proofs.Checking.{file_stop}
use Rattle.stmt_check.proofs.program.unit.Goals as goal

pub returns-in-Err : goal.returns-in-Err
returns-in-Err c = file_stop c.args.table.now c.args.file c.args.declared.now _ c.in_file.ensures c.in-Err.ensures
