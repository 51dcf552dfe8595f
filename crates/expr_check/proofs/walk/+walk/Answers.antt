use Rattle.expr_rules.specs.Asked.{demand_of}
use Rattle.expr_rules.specs.Operators.{join_found, link_found}
use Rattle.expr_rules.specs.Literals.{element_found, entry_found}
use Rattle.expr_rules.specs.Calls.{argument_found}
use Rattle.expr_rules.specs.Postfix.{step_found}
use Rattle.expr_check.specs.Expressions.{part_of, link_part, entry_part, step_of}
use Rattle.expr_rules.proofs.Through.{through_stop}
use Rattle.expr_rules.proofs.Then.{arm_err, arm_ok}
use Rattle.expr_check.proofs.Parts.{link_is, entry_is, or_is, xor_is, and_is, comparison_is, compared_is, sum_is, product_is, postfix_is}
use Rattle.expr_check.proofs.walk.+walk.Goals as goal

pub arguments-returns-in_err-arguments : goal.arguments-returns-in_err-arguments
arguments-returns-in_err-arguments t c = through_stop argument_found (part_of c.args.table.now c.args.scope.now) _ _ _ _ _ _ _ _ c.from_residual.ensures.1 c.as_slice-tree-items.ensures c.trees-test.true c.tree-item.is c.trees.invariant c.in_err-arguments.ensures

pub elements-returns-in_err-elements : goal.elements-returns-in_err-elements
elements-returns-in_err-elements t c = through_stop element_found (part_of c.args.table.now c.args.scope.now) _ _ _ _ _ _ _ _ c.from_residual.ensures.1 c.as_slice-tree-items.ensures c.trees-test.true c.tree-item.is c.trees.invariant c.in_err-elements.ensures

pub entries-returns-in_err-entries : goal.entries-returns-in_err-entries
entries-returns-in_err-entries t c = through_stop entry_found (entry_part c.args.table.now c.args.scope.now) _ _ _ _ _ _ _ _ c.from_residual.ensures.1 c.as_slice-tree-items.ensures c.trees-test.true c.tree-item.is c.trees.invariant c.in_err-entries.ensures

pub join_all-returns-in_err-chain : goal.join_all-returns-in_err-chain
join_all-returns-in_err-chain t c = through_stop (join_found c.args.spot) (part_of c.args.table.now c.args.scope.now) _ _ _ _ _ _ _ _ c.from_residual.ensures.1 c.as_slice-tree-items.ensures c.trees-test.true c.tree-item.is c.trees.invariant c.in_err-chain.ensures

pub link_all-returns-in_err-chain : goal.link_all-returns-in_err-chain
link_all-returns-in_err-chain t c = through_stop (link_found c.args.spot) (link_part c.args.table.now c.args.scope.now) _ _ _ _ _ _ _ _ c.from_residual.ensures.1 c.as_slice-tree-items.ensures c.trees-test.true c.tree-item.is c.trees.invariant c.in_err-chain.ensures

pub each_step-returns-in_err-walk : goal.each_step-returns-in_err-walk
each_step-returns-in_err-walk t c = through_stop (step_found c.args.spot c.args.changed (demand_of c.args.need) c.args.count) (step_of c.args.table.now c.args.scope.now) _ _ _ _ _ _ _ _ c.from_residual.ensures.1 c.as_slice-suffix-items.ensures c.steps-test.true c.suffix-item.is c.steps.invariant c.in_err-walk.ensures

pub judge_node-returns-in_err-judged-in-Or : goal.judge_node-returns-in_err-judged-in-Or
judge_node-returns-in_err-judged-in-Or t c = arm_err _ _ _ _ _ (or_is c.args.table.now c.args.scope.now c.args.tree.now (demand_of c.args.need) c.in-Or.first c.in-Or.rest c.get.result.now c.in-Or.is c.get.ensures) c.from_residual.ensures.1 c.in_err-judged-in-Or.ensures

pub judge_node-returns-in_ok-judged-in-Or : goal.judge_node-returns-in_ok-judged-in-Or
judge_node-returns-in_ok-judged-in-Or t c = arm_ok _ _ _ _ _ (or_is c.args.table.now c.args.scope.now c.args.tree.now (demand_of c.args.need) c.in-Or.first c.in-Or.rest c.get.result.now c.in-Or.is c.get.ensures) c.logic_rest.ensures c.in_ok-judged-in-Or.ensures

pub judge_node-returns-in_err-judged-in-Xor : goal.judge_node-returns-in_err-judged-in-Xor
judge_node-returns-in_err-judged-in-Xor t c = arm_err _ _ _ _ _ (xor_is c.args.table.now c.args.scope.now c.args.tree.now (demand_of c.args.need) c.in-Xor.first c.in-Xor.rest c.get-in-Xor.result.now c.in-Xor.is c.get-in-Xor.ensures) c.from_residual-in_err-judged-in-Xor.ensures.1 c.in_err-judged-in-Xor.ensures

pub judge_node-returns-in_ok-judged-in-Xor : goal.judge_node-returns-in_ok-judged-in-Xor
judge_node-returns-in_ok-judged-in-Xor t c = arm_ok _ _ _ _ _ (xor_is c.args.table.now c.args.scope.now c.args.tree.now (demand_of c.args.need) c.in-Xor.first c.in-Xor.rest c.get-in-Xor.result.now c.in-Xor.is c.get-in-Xor.ensures) c.logic_rest-in-Xor.ensures c.in_ok-judged-in-Xor.ensures

pub judge_node-returns-in_err-judged-in-And : goal.judge_node-returns-in_err-judged-in-And
judge_node-returns-in_err-judged-in-And t c = arm_err _ _ _ _ _ (and_is c.args.table.now c.args.scope.now c.args.tree.now (demand_of c.args.need) c.in-And.first c.in-And.rest c.get-in-And.result.now c.in-And.is c.get-in-And.ensures) c.from_residual-in_err-judged-in-And.ensures.1 c.in_err-judged-in-And.ensures

pub judge_node-returns-in_ok-judged-in-And : goal.judge_node-returns-in_ok-judged-in-And
judge_node-returns-in_ok-judged-in-And t c = arm_ok _ _ _ _ _ (and_is c.args.table.now c.args.scope.now c.args.tree.now (demand_of c.args.need) c.in-And.first c.in-And.rest c.get-in-And.result.now c.in-And.is c.get-in-And.ensures) c.logic_rest-in-And.ensures c.in_ok-judged-in-And.ensures

pub judge_node-returns-in_err-judged-in-Compare : goal.judge_node-returns-in_err-judged-in-Compare
judge_node-returns-in_err-judged-in-Compare t c = arm_err _ _ _ _ _ (comparison_is c.args.table.now c.args.scope.now c.args.tree.now (demand_of c.args.need) c.in-Compare.left c.in-Compare.comparison c.in-Compare.right c.get-in-Compare.result.now c.in-Compare.is c.get-in-Compare.ensures) c.from_residual-in_err-judged-in-Compare.ensures.1 c.in_err-judged-in-Compare.ensures

pub judge_node-returns-in_ok-judged-in-Compare : goal.judge_node-returns-in_ok-judged-in-Compare
judge_node-returns-in_ok-judged-in-Compare t c = arm_ok _ _ _ _ _ (compared_is c.args.table.now c.args.scope.now c.args.tree.now (demand_of c.args.need) c.in-Compare.left c.in-Compare.comparison c.in-Compare.right c.get-in-Compare.result.now c.get-in-Compare-2.result.now c.in-Compare.is c.get-in-Compare.ensures c.get-in-Compare-2.ensures) c.comparison_right.ensures c.in_ok-judged-in-Compare.ensures

pub judge_node-returns-in_err-judged-in-Sum : goal.judge_node-returns-in_err-judged-in-Sum
judge_node-returns-in_err-judged-in-Sum t c = arm_err _ _ _ _ _ (sum_is c.args.table.now c.args.scope.now c.args.tree.now (demand_of c.args.need) c.in-Sum.first c.in-Sum.links c.get-in-Sum.result.now c.in-Sum.is c.get-in-Sum.ensures) c.from_residual-in_err-judged-in-Sum.ensures.1 c.in_err-judged-in-Sum.ensures

pub judge_node-returns-in_ok-judged-in-Sum : goal.judge_node-returns-in_ok-judged-in-Sum
judge_node-returns-in_ok-judged-in-Sum t c = arm_ok _ _ _ _ _ (sum_is c.args.table.now c.args.scope.now c.args.tree.now (demand_of c.args.need) c.in-Sum.first c.in-Sum.links c.get-in-Sum.result.now c.in-Sum.is c.get-in-Sum.ensures) c.links_rest.ensures c.in_ok-judged-in-Sum.ensures

pub judge_node-returns-in_err-judged-in-Product : goal.judge_node-returns-in_err-judged-in-Product
judge_node-returns-in_err-judged-in-Product t c = arm_err _ _ _ _ _ (product_is c.args.table.now c.args.scope.now c.args.tree.now (demand_of c.args.need) c.in-Product.first c.in-Product.links c.get-in-Product.result.now c.in-Product.is c.get-in-Product.ensures) c.from_residual-in_err-judged-in-Product.ensures.1 c.in_err-judged-in-Product.ensures

pub judge_node-returns-in_ok-judged-in-Product : goal.judge_node-returns-in_ok-judged-in-Product
judge_node-returns-in_ok-judged-in-Product t c = arm_ok _ _ _ _ _ (product_is c.args.table.now c.args.scope.now c.args.tree.now (demand_of c.args.need) c.in-Product.first c.in-Product.links c.get-in-Product.result.now c.in-Product.is c.get-in-Product.ensures) c.links_rest-in-Product.ensures c.in_ok-judged-in-Product.ensures

pub judge_node-returns-in_err-judged-in-Postfix : goal.judge_node-returns-in_err-judged-in-Postfix
judge_node-returns-in_err-judged-in-Postfix t c = arm_err _ _ _ _ _ (postfix_is c.args.table.now c.args.scope.now c.args.tree.now (demand_of c.args.need) c.in-Postfix.first c.in-Postfix.suffixes c.get-in-Postfix.result.now c.leads-changed.result c.len.result c.in-Postfix.is c.get-in-Postfix.ensures c.leads-changed.ensures c.len.ensures.count) c.from_residual-in_err-judged-in-Postfix.ensures.1 c.in_err-judged-in-Postfix.ensures

pub judge_node-returns-in_ok-judged-in-Postfix : goal.judge_node-returns-in_ok-judged-in-Postfix
judge_node-returns-in_ok-judged-in-Postfix t c = arm_ok _ _ _ _ _ (postfix_is c.args.table.now c.args.scope.now c.args.tree.now (demand_of c.args.need) c.in-Postfix.first c.in-Postfix.suffixes c.get-in-Postfix.result.now c.leads-changed.result c.len.result c.in-Postfix.is c.get-in-Postfix.ensures c.leads-changed.ensures c.len.ensures.count) c.postfix_rest.ensures c.in_ok-judged-in-Postfix.ensures

pub link-returns-in_err-judged : goal.link-returns-in_err-judged
link-returns-in_err-judged t c = arm_err _ _ _ _ _ (link_is c.args.table.now c.args.scope.now c.args.spot c.args.chain c.args.tree.now) c.from_residual.ensures.1 c.in_err-judged.ensures

pub link-returns : goal.link-returns
link-returns t c = arm_ok _ _ _ _ _ (link_is c.args.table.now c.args.scope.now c.args.spot c.args.chain c.args.tree.now) c.link_of.ensures c.in_ok-judged.ensures

pub entry-returns-in_err-key : goal.entry-returns-in_err-key
entry-returns-in_err-key t c = arm_err _ _ _ _ _ (entry_is c.args.table.now c.args.scope.now c.args.entries c.args.tree.now) c.from_residual.ensures.1 c.in_err-key.ensures

pub entry-returns : goal.entry-returns
entry-returns t c = arm_ok _ _ _ _ _ (entry_is c.args.table.now c.args.scope.now c.args.entries c.args.tree.now) c.value.ensures c.in_ok-key.ensures
