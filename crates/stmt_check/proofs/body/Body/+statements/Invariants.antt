use Rattle.std.proofs.Common.{◌≡◌, drop, map}
use Rattle.stmt_check.specs.Bodies.{around_of}
use Rattle.stmt_check.specs.Statements.{part_of, row_read}
use Rattle.stmt_check.proofs.Going.{front}
use Rattle.stmt_check.proofs.body.Body.+statements.Given as goal

abbrev pub invariant-row-loop-tree : goal.invariant-row-loop-tree
invariant-row-loop-tree l = front l.made (row_read (around_of l.self) (map part_of (drop l.tree-index l.trees)) l.state) ≡ row_read (around_of l.self) (map part_of l.trees) l.fn.state
