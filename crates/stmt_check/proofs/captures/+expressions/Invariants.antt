use Rattle.std.proofs.Common.{◌≡◌, drop, map}
use Rattle.stmt_check.specs.Captures.{any_of, entry_names, expr_names, link_names, suffix_names}
use Rattle.stmt_check.proofs.captures.+expressions.Given as goal

abbrev pub invariant-any_expr-loop-tree : goal.invariant-any_expr-loop-tree
invariant-any_expr-loop-tree l = any_of (map expr_names l.trees) l.name ≡ any_of (map expr_names (drop l.tree-index l.trees)) l.name

abbrev pub invariant-any_link-loop-link : goal.invariant-any_link-loop-link
invariant-any_link-loop-link l = any_of (map link_names l.links) l.name ≡ any_of (map link_names (drop l.link-index l.links)) l.name

abbrev pub invariant-any_entry-loop-entry : goal.invariant-any_entry-loop-entry
invariant-any_entry-loop-entry l = any_of (map entry_names l.entries) l.name ≡ any_of (map entry_names (drop l.entry-index l.entries)) l.name

abbrev pub invariant-any_suffix-loop-step : goal.invariant-any_suffix-loop-step
invariant-any_suffix-loop-step l = any_of (map suffix_names l.steps) l.name ≡ any_of (map suffix_names (drop l.step-index l.steps)) l.name
