use Rattle.std.proofs.Common.{◌≡◌, drop, map}
use Rattle.listener_check.specs.Terms.{part_of, each_step, behind_step, each, each_behind}
use Rattle.listener_check.specs.Went.{through}
use Rattle.listener_check.proofs.reader.Reader.+read.Given as goal

abbrev pub invariant-read_each-loop-tree : goal.invariant-read_each-loop-tree
invariant-read_each-loop-tree l = let part = part_of l.self.table.now l.self.scope.now l.self.inner.now in
    through (each_step l.may l.under l.left) l.done (map part (drop l.tree-index l.trees)) l.sofar ≡ each l.may l.under l.left (map part l.trees) l.fn.sofar

abbrev pub invariant-read_behind-loop-tree : goal.invariant-read_behind-loop-tree
invariant-read_behind-loop-tree l = let part = part_of l.self.table.now l.self.scope.now l.self.inner.now in
    through (behind_step l.start l.under l.left) l.done (map part (drop l.tree-index l.trees)) l.sofar ≡ each_behind l.start l.under l.left (map part l.trees) l.fn.sofar
