use Rattle.stmt_check.proofs.Checking.{Behind}
use Rattle.stmt_check.proofs.program.files.Given as goal

abbrev pub invariant-files : goal.invariant-files
invariant-files l = Behind l.table l.units l.file l.made
