use Rattle.std.proofs.Common.{◌≡◌, drop, map}
use Rattle.stmt_check.specs.Captures.{any_of, stmt_names}
use Rattle.stmt_check.proofs.captures.+statements.Given as goal

abbrev pub invariant-any_stmt-loop-tree : goal.invariant-any_stmt-loop-tree
invariant-any_stmt-loop-tree l = any_of (map stmt_names l.trees) l.name ≡ any_of (map stmt_names (drop l.tree-index l.trees)) l.name
