use Rattle.std.proofs.Common.{◌≡◌, drop, map}
use Rattle.stmt_check.specs.Captures.{any_of, event_names}
use Rattle.stmt_check.proofs.captures.+events.Given as goal

abbrev pub invariant-any_event-loop-tree : goal.invariant-any_event-loop-tree
invariant-any_event-loop-tree l = any_of (map event_names l.trees) l.name ≡ any_of (map event_names (drop l.tree-index l.trees)) l.name
