use Rattle.std.proofs.Common.{◌≡◌, ◌++◌, drop}
use Rattle.stmt_check.specs.Bodies.{captured_in}
use Rattle.stmt_check.specs.Captures.{stmt_names}
use Rattle.stmt_check.proofs.callback.captured.Given as goal

abbrev pub invariant-names : goal.invariant-names
invariant-names l = l.captured ++ captured_in (stmt_names l.callback) (drop l.seen-index l.names) ≡ captured_in (stmt_names l.callback) l.names
