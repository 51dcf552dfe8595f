use Rattle.std.proofs.Common.{◌≡◌, map, drop}
use Rattle.expr_rules.specs.Then.{through}
use Rattle.expr_rules.specs.Asked.{demand_of}
use Rattle.expr_rules.specs.Operators.{join_found, link_found}
use Rattle.expr_rules.specs.Literals.{element_found, entry_found}
use Rattle.expr_rules.specs.Calls.{argument_found}
use Rattle.expr_rules.specs.Postfix.{step_found}
use Rattle.expr_check.specs.Expressions.{part_of, link_part, entry_part, step_of}
use Rattle.expr_check.proofs.walk.+walk.Given as goal

abbrev pub invariant-join_all-trees : goal.invariant-join_all-trees
invariant-join_all-trees l = through (join_found l.spot) l.chain (map (part_of l.table l.scope) (drop l.tree-index l.trees)) ≡ through (join_found l.spot) l.fn.start (map (part_of l.table l.scope) l.trees)

abbrev pub invariant-link_all-trees : goal.invariant-link_all-trees
invariant-link_all-trees l = through (link_found l.spot) l.chain (map (link_part l.table l.scope) (drop l.tree-index l.trees)) ≡ through (link_found l.spot) l.fn.start (map (link_part l.table l.scope) l.trees)

abbrev pub invariant-elements-trees : goal.invariant-elements-trees
invariant-elements-trees l = through element_found l.elements (map (part_of l.table l.scope) (drop l.tree-index l.trees)) ≡ through element_found l.fn.start (map (part_of l.table l.scope) l.trees)

abbrev pub invariant-entries-trees : goal.invariant-entries-trees
invariant-entries-trees l = through entry_found l.entries (map (entry_part l.table l.scope) (drop l.tree-index l.trees)) ≡ through entry_found l.fn.start (map (entry_part l.table l.scope) l.trees)

abbrev pub invariant-arguments-trees : goal.invariant-arguments-trees
invariant-arguments-trees l = through argument_found l.arguments (map (part_of l.table l.scope) (drop l.tree-index l.trees)) ≡ through argument_found l.fn.start (map (part_of l.table l.scope) l.trees)

abbrev pub invariant-each_step-steps : goal.invariant-each_step-steps
invariant-each_step-steps l = through (step_found l.spot l.changed (demand_of l.need) l.count) l.walk (map (step_of l.table l.scope) (drop l.suffix-index l.suffixes)) ≡ through (step_found l.spot l.changed (demand_of l.need) l.count) l.fn.start (map (step_of l.table l.scope) l.suffixes)
