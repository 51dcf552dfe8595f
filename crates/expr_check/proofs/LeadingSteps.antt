-- What a step is for the limit on a changed place shows in its tree.
use Rattle.std.proofs.Common.{◌≡◌, List, [], ◌∷◌, map, length, refl, ap, ◌∙◌}
use Rattle.std.proofs.lemmas.List.{length-map}
use Rattle.epl_tree.specs.declared.expression.Suffix.{Suffix, out-Suffix, fold_out-Suffix}
use Rattle.epl_tree.specs.declared.expression.Entry.{Entry}
use Rattle.epl_tree.specs.declared.expression.Expr.{Expr}
use Rattle.epl_tree.specs.declared.expression.ExprNode.{ExprNode, fold-ExprNode}
use Rattle.epl_tree.specs.declared.expression.Link.{Link}
use Rattle.epl_tree.specs.declared.expression.SuffixNode.{SuffixNode, SuffixNode-F, map-SuffixNode, out-SuffixNode, fold_out-SuffixNode, fold-SuffixNode}
use Rattle.epl_tree.specs.declared.expression.ExprNode.TheOpen as layer
use Rattle.type_table.specs.declared.scope.Scope.{Scope}
use Rattle.type_table.specs.declared.table.Table.{Table}
use Rattle.expr_rules.specs.declared.steps.StepKind.{StepKind}
use Rattle.expr_rules.specs.Literals.{Pair}
use Rattle.expr_rules.specs.Operators.{Part, Linked}
use Rattle.expr_rules.specs.Postfix.{Step, kind_of, kind_layer}
use Rattle.expr_check.specs.Expressions.{Node, StepNode, node_step, suffix_node_step, entry_step, expr_step, link_step, suffix_step, part_of, link_part, entry_part, step_of}

-- what a step is shows in its layer
layer_kind : (table : Table) (scope : Scope) (d : SuffixNode-F Node StepNode Pair Part Linked Step) → (suffix_node_step table scope d).kind ≡ kind_layer d
layer_kind table scope (layer.Field name) = refl
layer_kind table scope (layer.Method name trees) = refl
layer_kind table scope (layer.Index e) = refl

-- and stays where its parts are folded
folded_kind : (f : ExprNode → Node) (g : SuffixNode → StepNode) (h : Entry → Pair) (i : Expr → Part) (j : Link → Linked) (k : Suffix → Step) (d : SuffixNode-F ExprNode SuffixNode Entry Expr Link Suffix) → kind_layer (map-SuffixNode ExprNode SuffixNode Entry Expr Link Suffix Node StepNode Pair Part Linked Step f g h i j k d) ≡ kind_layer d
folded_kind f g h i j k (layer.Field name) = refl
folded_kind f g h i j k (layer.Method name trees) = refl
folded_kind f g h i j k (layer.Index e) = refl

module _ (table : Table) (scope : Scope) where
  node_of : ExprNode → Node
  node_of = fold-ExprNode Node StepNode Pair Part Linked Step (node_step table scope) (suffix_node_step table scope) (entry_step table scope) (expr_step table scope) (link_step table scope) (suffix_step table scope)

  step_node_of : SuffixNode → StepNode
  step_node_of = fold-SuffixNode Node StepNode Pair Part Linked Step (node_step table scope) (suffix_node_step table scope) (entry_step table scope) (expr_step table scope) (link_step table scope) (suffix_step table scope)

  step_node_kind : (n : SuffixNode) → (step_node_of n).kind ≡ kind_layer (out-SuffixNode n)
  unfolding step_node_of node_of
  step_node_kind n =
      ap (λ (x : StepNode). x.kind) (fold_out-SuffixNode Node StepNode Pair Part Linked Step (node_step table scope) (suffix_node_step table scope) (entry_step table scope) (expr_step table scope) (link_step table scope) (suffix_step table scope) n)
      ∙ layer_kind table scope (map-SuffixNode ExprNode SuffixNode Entry Expr Link Suffix Node StepNode Pair Part Linked Step node_of step_node_of (entry_part table scope) (part_of table scope) (link_part table scope) (step_of table scope) (out-SuffixNode n))
      ∙ folded_kind node_of step_node_of (entry_part table scope) (part_of table scope) (link_part table scope) (step_of table scope) (out-SuffixNode n)

  step_kind : (s : Suffix) → (step_of table scope s).kind ≡ kind_of s
  unfolding step_node_of
  step_kind s =
      ap (λ (x : Step). x.kind) (fold_out-Suffix Node StepNode Pair Part Linked Step (node_step table scope) (suffix_node_step table scope) (entry_step table scope) (expr_step table scope) (link_step table scope) (suffix_step table scope) s)
      ∙ step_node_kind (out-Suffix s).node

pub step_kinds : (table : Table) (scope : Scope) (steps : List Suffix) → map (λ s. s.kind) (map (step_of table scope) steps) ≡ map kind_of steps
step_kinds table scope [] = refl
step_kinds table scope (s ∷ steps) = ap (λ (k : StepKind). k ∷ map (λ s. s.kind) (map (step_of table scope) steps)) (step_kind table scope s) ∙ ap (λ (ks : List StepKind). kind_of s ∷ ks) (step_kinds table scope steps)

pub steps_count : (table : Table) (scope : Scope) (steps : List Suffix) → length (map (step_of table scope) steps) ≡ length steps
steps_count table scope steps = length-map steps (step_of table scope)
