use Rattle.std.proofs.Common.{◌≡◌, take, length}
use Rattle.stmt_check.proofs.local.leave_names.Given as goal

abbrev pub invariant-last : goal.invariant-last
invariant-last l = take l.len l.names ≡ take l.len l.fn.names

abbrev pub decreases-last : goal.decreases-last
decreases-last l = length l.names
