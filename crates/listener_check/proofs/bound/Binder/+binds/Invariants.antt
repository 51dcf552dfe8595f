use Rattle.std.proofs.Common.{◌≡◌, drop}
use Rattle.listener_check.specs.Bound.{all_bind}
use Rattle.listener_check.proofs.bound.Binder.+binds.Given as goal

abbrev pub invariant-all-loop-tree : goal.invariant-all-loop-tree
invariant-all-loop-tree l = all_bind l.self.table.now l.self.outer (drop l.tree-index l.trees) l.scope ≡ all_bind l.self.table.now l.self.outer l.trees l.fn.scope
