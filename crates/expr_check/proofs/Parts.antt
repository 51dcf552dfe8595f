-- A link, an entry and a node by their parts.
use Rattle.std.proofs.Common.{◌≡◌, ℕ, Bool, true, List, map, length, sym, ap, ◌∙◌}
use Rattle.span_text.specs.declared.spot.Spot.{Spot}
use Rattle.epl_tree.specs.declared.expression.Comparison.{Comparison}
use Rattle.epl_tree.specs.declared.expression.Entry.{Entry, out-Entry, fold_out-Entry}
use Rattle.epl_tree.specs.declared.expression.Expr.{Expr, out-Expr, fold_out-Expr}
use Rattle.epl_tree.specs.declared.expression.ExprNode.{ExprNode, ExprNode-F, map-ExprNode, out-ExprNode, fold-ExprNode, fold_out-ExprNode}
use Rattle.epl_tree.specs.declared.expression.ExprNode.TheOpen as layer
use Rattle.epl_tree.specs.declared.expression.ExprNode.TheVariants as tree
use Rattle.epl_tree.specs.declared.expression.Link.{Link, out-Link, fold_out-Link}
use Rattle.epl_tree.specs.declared.expression.Suffix.{Suffix}
use Rattle.epl_tree.specs.declared.expression.SuffixNode.{SuffixNode, fold-SuffixNode}
use Rattle.type_table.specs.declared.scope.Scope.{Scope}
use Rattle.type_table.specs.declared.table.Table.{Table}
use Rattle.type_table.specs.Found.{Found}
use Rattle.expr_rules.specs.declared.literals.EntryList.{EntryList}
use Rattle.expr_rules.specs.declared.operators.LinkChain.{LinkChain}
use Rattle.expr_rules.specs.declared.operators.Logic.TheVariants as logic
use Rattle.expr_rules.specs.declared.operators.Level.TheVariants as level
use Rattle.expr_rules.specs.declared.placed.Judged.{Judged}
use Rattle.expr_rules.specs.declared.steps.StepKind.{StepKind}
use Rattle.expr_rules.specs.Asked.{Demand, assigned, operand, plain}
use Rattle.expr_rules.specs.Literals.{Pair, entry_found, value_found, key_wish}
use Rattle.expr_rules.specs.Operators.{Part, Linked, link_found, link_of, logic_rest, comparison_right, links_rest}
use Rattle.expr_rules.specs.Postfix.{Step, kind_of, leads, demand_before, postfix_rest, walked_from}
use Rattle.expr_rules.specs.Then.{and_then}
use Rattle.expr_check.specs.Expressions.{Node, StepNode, node_step, suffix_node_step, entry_step, expr_step, link_step, suffix_step, part_of, link_part, entry_part, step_of}
use Rattle.epl_tree.specs.declared.statement.Place.{Place}
use Rattle.expr_rules.specs.Names.{seen, name_found}
use Rattle.expr_check.specs.Checks.{place_walk, place_found, target}
use Rattle.expr_check.proofs.LeadingSteps.{step_kinds, steps_count}

module _ (table : Table) (scope : Scope) where
  link_out : (l : Link) → link_part table scope l ≡ record { operator = (out-Link l).operator; operand = part_of table scope (out-Link l).operand }
  link_out l = fold_out-Link Node StepNode Pair Part Linked Step (node_step table scope) (suffix_node_step table scope) (entry_step table scope) (expr_step table scope) (link_step table scope) (suffix_step table scope) l

  entry_out : (e : Entry) → entry_part table scope e ≡ record { key = part_of table scope (out-Entry e).key; value = part_of table scope (out-Entry e).value }
  entry_out e = fold_out-Entry Node StepNode Pair Part Linked Step (node_step table scope) (suffix_node_step table scope) (entry_step table scope) (expr_step table scope) (link_step table scope) (suffix_step table scope) e

  pub link_is : (spot : Spot) (chain : LinkChain) (l : Link) → link_found spot chain (link_part table scope l) ≡ and_then (part_of table scope (out-Link l).operand operand) (link_of spot chain (out-Link l).operator)
  link_is spot chain l = ap (λ (p : Linked). link_found spot chain p) (link_out l)

  pub entry_is : (entries : EntryList) (e : Entry) → entry_found entries (entry_part table scope e) ≡ and_then (part_of table scope (out-Entry e).key (plain (key_wish entries.key))) (value_found entries (part_of table scope (out-Entry e).value))
  entry_is entries e = ap (λ (p : Pair). entry_found entries p) (entry_out e)

  node_of : ExprNode → Node
  node_of = fold-ExprNode Node StepNode Pair Part Linked Step (node_step table scope) (suffix_node_step table scope) (entry_step table scope) (expr_step table scope) (link_step table scope) (suffix_step table scope)

  step_node_of : SuffixNode → StepNode
  step_node_of = fold-SuffixNode Node StepNode Pair Part Linked Step (node_step table scope) (suffix_node_step table scope) (entry_step table scope) (expr_step table scope) (link_step table scope) (suffix_step table scope)

  folded : ExprNode-F ExprNode SuffixNode Entry Expr Link Suffix → Node
  folded d = node_step table scope (map-ExprNode ExprNode SuffixNode Entry Expr Link Suffix Node StepNode Pair Part Linked Step node_of step_node_of (entry_part table scope) (part_of table scope) (link_part table scope) (step_of table scope) d)

  -- an expression by the layer of its node
  node_at : (e : Expr) (d : ExprNode-F ExprNode SuffixNode Entry Expr Link Suffix) (demand : Demand) → out-ExprNode (out-Expr e).node ≡ d → part_of table scope e demand ≡ folded d (out-Expr e).spot demand
  unfolding node_of step_node_of folded
  node_at e d demand is =
      ap (λ (p : Part). p demand) (fold_out-Expr Node StepNode Pair Part Linked Step (node_step table scope) (suffix_node_step table scope) (entry_step table scope) (expr_step table scope) (link_step table scope) (suffix_step table scope) e)
      ∙ ap (λ (n : Node). n (out-Expr e).spot demand) (fold_out-ExprNode Node StepNode Pair Part Linked Step (node_step table scope) (suffix_node_step table scope) (entry_step table scope) (expr_step table scope) (link_step table scope) (suffix_step table scope) (out-Expr e).node)
      ∙ ap (λ (x : ExprNode-F ExprNode SuffixNode Entry Expr Link Suffix). folded x (out-Expr e).spot demand) is

  module _ (e : Expr) (demand : Demand) where
    pub or_is : (first : Expr) (rest : List Expr) (seen : Expr) → (out-Expr e).node ≡ tree.Or first rest → seen ≡ first → part_of table scope e demand ≡ and_then (part_of table scope seen operand) (logic_rest logic.Or (map (part_of table scope) rest) (out-Expr e).spot demand)
    unfolding folded
    or_is first rest seen is same = node_at e (layer.Or first rest) demand (ap out-ExprNode is ∙ tree.outs-Or first rest) ∙ ap (λ (x : Expr). and_then (part_of table scope x operand) (logic_rest logic.Or (map (part_of table scope) rest) (out-Expr e).spot demand)) (sym same)

    pub xor_is : (first : Expr) (rest : List Expr) (seen : Expr) → (out-Expr e).node ≡ tree.Xor first rest → seen ≡ first → part_of table scope e demand ≡ and_then (part_of table scope seen operand) (logic_rest logic.Xor (map (part_of table scope) rest) (out-Expr e).spot demand)
    unfolding folded
    xor_is first rest seen is same = node_at e (layer.Xor first rest) demand (ap out-ExprNode is ∙ tree.outs-Xor first rest) ∙ ap (λ (x : Expr). and_then (part_of table scope x operand) (logic_rest logic.Xor (map (part_of table scope) rest) (out-Expr e).spot demand)) (sym same)

    pub and_is : (first : Expr) (rest : List Expr) (seen : Expr) → (out-Expr e).node ≡ tree.And first rest → seen ≡ first → part_of table scope e demand ≡ and_then (part_of table scope seen operand) (logic_rest logic.And (map (part_of table scope) rest) (out-Expr e).spot demand)
    unfolding folded
    and_is first rest seen is same = node_at e (layer.And first rest) demand (ap out-ExprNode is ∙ tree.outs-And first rest) ∙ ap (λ (x : Expr). and_then (part_of table scope x operand) (logic_rest logic.And (map (part_of table scope) rest) (out-Expr e).spot demand)) (sym same)

    pub comparison_is : (left : Expr) (c : Comparison) (right : Expr) (seen : Expr) → (out-Expr e).node ≡ tree.Compare left c right → seen ≡ left → part_of table scope e demand ≡ and_then (part_of table scope seen operand) (comparison_right (out-Expr e).spot demand c (part_of table scope right))
    unfolding folded
    comparison_is left c right seen is same =
        node_at e (layer.Compare left c right) demand (ap out-ExprNode is ∙ tree.outs-Compare left c right)
        ∙ ap (λ (x : Expr). and_then (part_of table scope x operand) (comparison_right (out-Expr e).spot demand c (part_of table scope right))) (sym same)

    -- the same where the right operand is seen too
    pub compared_is : (left : Expr) (c : Comparison) (right : Expr) (seen right_seen : Expr) → (out-Expr e).node ≡ tree.Compare left c right → seen ≡ left → right_seen ≡ right → part_of table scope e demand ≡ and_then (part_of table scope seen operand) (comparison_right (out-Expr e).spot demand c (part_of table scope right_seen))
    compared_is left c right seen right_seen is same same_right =
        comparison_is left c right seen is same
        ∙ ap (λ (x : Expr). and_then (part_of table scope seen operand) (comparison_right (out-Expr e).spot demand c (part_of table scope x))) (sym same_right)

    pub sum_is : (first : Expr) (links : List Link) (seen : Expr) → (out-Expr e).node ≡ tree.Sum first links → seen ≡ first → part_of table scope e demand ≡ and_then (part_of table scope seen operand) (links_rest level.Sum (map (link_part table scope) links) (out-Expr e).spot demand)
    unfolding folded
    sum_is first links seen is same = node_at e (layer.Sum first links) demand (ap out-ExprNode is ∙ tree.outs-Sum first links) ∙ ap (λ (x : Expr). and_then (part_of table scope x operand) (links_rest level.Sum (map (link_part table scope) links) (out-Expr e).spot demand)) (sym same)

    pub product_is : (first : Expr) (links : List Link) (seen : Expr) → (out-Expr e).node ≡ tree.Product first links → seen ≡ first → part_of table scope e demand ≡ and_then (part_of table scope seen operand) (links_rest level.Product (map (link_part table scope) links) (out-Expr e).spot demand)
    unfolding folded
    product_is first links seen is same = node_at e (layer.Product first links) demand (ap out-ExprNode is ∙ tree.outs-Product first links) ∙ ap (λ (x : Expr). and_then (part_of table scope x operand) (links_rest level.Product (map (link_part table scope) links) (out-Expr e).spot demand)) (sym same)

    -- what changes and how many steps there are, by the steps as they are written
    led : Expr → List Suffix → List StepKind → ℕ → Found Judged
    led first steps kinds count = and_then (part_of table scope first (demand_before (leads demand.changed kinds) demand count)) (postfix_rest (leads demand.changed kinds) (map (step_of table scope) steps) (out-Expr e).spot demand)

    pub postfix_is : (first : Expr) (steps : List Suffix) (seen : Expr) (changed : Bool) (count : ℕ) → (out-Expr e).node ≡ tree.Postfix first steps → seen ≡ first → changed ≡ leads demand.changed (map kind_of steps) → count ≡ length steps → part_of table scope e demand ≡ and_then (part_of table scope seen (demand_before changed demand count)) (postfix_rest changed (map (step_of table scope) steps) (out-Expr e).spot demand)
    unfolding folded led
    postfix_is first steps seen changed count is at same counted =
        node_at e (layer.Postfix first steps) demand (ap out-ExprNode is ∙ tree.outs-Postfix first steps)
        ∙ ap (λ (kinds : List StepKind). led first steps kinds (length (map (step_of table scope) steps))) (step_kinds table scope steps)
        ∙ ap (λ (n : ℕ). led first steps (map kind_of steps) n) (steps_count table scope steps ∙ sym counted)
        ∙ ap (λ (c : Bool). and_then (part_of table scope first (demand_before c demand count)) (postfix_rest c (map (step_of table scope) steps) (out-Expr e).spot demand)) (sym same)
        ∙ ap (λ (x : Expr). and_then (part_of table scope x (demand_before changed demand count)) (postfix_rest changed (map (step_of table scope) steps) (out-Expr e).spot demand)) (sym at)

  -- a place by its variable and its steps
  pub place_is : (place : Place) (changed : Bool) → place_walk table scope place changed ≡ and_then (name_found place.spot (demand_before changed assigned (length place.steps)) (seen scope place.name)) (walked_from place.spot changed assigned (map (step_of table scope) place.steps))
  place_is place changed = ap (λ (n : ℕ). and_then (name_found place.spot (demand_before changed assigned n) (seen scope place.name)) (walked_from place.spot changed assigned (map (step_of table scope) place.steps))) (steps_count table scope place.steps)

  pub target_is : (place : Place) (changed : Bool) → changed ≡ leads true (map kind_of place.steps) → place_found table scope place ≡ and_then (place_walk table scope place changed) target
  target_is place changed same =
      ap (λ (kinds : List StepKind). and_then (place_walk table scope place (leads true kinds)) target) (step_kinds table scope place.steps)
      ∙ ap (λ (c : Bool). and_then (place_walk table scope place c) target) (sym same)
