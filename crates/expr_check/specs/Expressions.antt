-- An expression at its place: the faults of its parts, left to right, and then its own.
use Rattle.std.specs.Prelude.{map}
use Rattle.span_text.specs.declared.spot.Spot.{Spot}
use Rattle.epl_tree.specs.declared.expression.Expr.{Expr, Expr-F, fold-Expr}
use Rattle.epl_tree.specs.declared.expression.ExprNode.{ExprNode-F}
use Rattle.epl_tree.specs.declared.expression.ExprNode.TheOpen as node
use Rattle.epl_tree.specs.declared.expression.Link.{Link, Link-F, fold-Link}
use Rattle.epl_tree.specs.declared.expression.Entry.{Entry, Entry-F, fold-Entry}
use Rattle.epl_tree.specs.declared.expression.Suffix.{Suffix, Suffix-F, fold-Suffix}
use Rattle.epl_tree.specs.declared.expression.SuffixNode.{SuffixNode-F}
use Rattle.typed_program.specs.declared.expression.TypedExpr.{TypedExpr}
use Rattle.type_table.specs.declared.scope.Scope.{Scope}
use Rattle.type_table.specs.declared.table.Table.{Table}
use Rattle.type_table.specs.Found.{Found}
use Rattle.type_table.specs.Types.{type_found}
use Rattle.expr_rules.specs.declared.operators.Logic.TheVariants as logic
use Rattle.expr_rules.specs.declared.operators.Level.TheVariants as level
use Rattle.expr_rules.specs.declared.placed.Judged.{Judged}
use Rattle.expr_rules.specs.declared.steps.Walk.{Walk}
use Rattle.expr_rules.specs.declared.steps.StepKind.{StepKind}
use Rattle.expr_rules.specs.declared.steps.StepKind.TheVariants as step
use Rattle.expr_rules.specs.Asked.{Demand, inside}
use Rattle.expr_rules.specs.Calls.{call_found, context_found}
use Rattle.expr_rules.specs.Literals.{Pair, new_stands, text_stands, boolean_stands, current_stands, integer_found, sequence_found, dictionary_found}
use Rattle.expr_rules.specs.Methods.{is_change, method_named}
use Rattle.expr_rules.specs.Names.{seen, name_found}
use Rattle.expr_rules.specs.Operators.{Part, Linked, not_found, minus_found, comparison_found, logic_found, links_found}
use Rattle.expr_rules.specs.Places.{group_of}
use Rattle.expr_rules.specs.Postfix.{Step, leads, method_kind, field_found, index_found, method_found, postfix_found}
use Rattle.expr_rules.specs.Then.{and_then, sound}

-- a node at a spot
abbrev pub Node : Type 0
Node = Spot → Demand → Found Judged

-- a step behind a value, at its own spot
pub record StepNode : Type 0 where
  pub kind : StepKind
  pub found : Spot → Spot → Demand → Walk → Found Walk

abbrev pub typed_of : Judged → Found TypedExpr
typed_of j = sound j.typed

module _ (table : Table) (scope : Scope) where
  abbrev pub node_step : ExprNode-F Node StepNode Pair Part Linked Step → Node
  node_step (node.Or first rest) spot demand = logic_found logic.Or first rest spot demand
  node_step (node.Xor first rest) spot demand = logic_found logic.Xor first rest spot demand
  node_step (node.And first rest) spot demand = logic_found logic.And first rest spot demand
  node_step (node.Not part) spot demand = not_found part spot demand
  node_step (node.Compare left c right) spot demand = comparison_found left c right spot demand
  node_step (node.Sum first links) spot demand = links_found level.Sum first links spot demand
  node_step (node.Product first links) spot demand = links_found level.Product first links spot demand
  node_step (node.Minus part) spot demand = minus_found part spot demand
  node_step (node.Postfix part steps) spot demand = postfix_found (leads demand.changed (map (λ s. s.kind) steps)) part steps spot demand
  node_step (node.Integer digits) spot demand = integer_found spot demand digits
  node_step (node.Quoted text) spot demand = text_stands spot demand text
  node_step (node.Boolean b) spot demand = boolean_stands spot demand b
  node_step (node.Name name) spot demand = name_found spot demand (seen scope name)
  node_step (node.Call name parts) spot demand = call_found table scope name parts spot demand
  node_step (node.Sequence parts) spot demand = sequence_found parts spot demand
  node_step (node.Dictionary pairs) spot demand = dictionary_found pairs spot demand
  node_step (node.New written) spot demand = and_then (type_found table written) (new_stands spot demand)
  node_step (node.Context parts) spot demand = context_found parts spot demand
  node_step node.ContextCurrent spot demand = current_stands spot demand
  node_step (node.Group part) spot demand = and_then (part (inside demand)) (group_of spot demand)

  abbrev pub suffix_node_step : SuffixNode-F Node StepNode Pair Part Linked Step → StepNode
  suffix_node_step (node.Field name) = record { kind = step.Inner; found = λ own. field_found table name }
  suffix_node_step (node.Index part) = record { kind = step.Inner; found = index_found part }
  suffix_node_step (node.Method name parts) = record { kind = method_kind (is_change (method_named name)); found = λ own. method_found name parts }

  abbrev pub entry_step : Entry-F Node StepNode Pair Part Linked Step → Pair
  entry_step e = record { key = e.key; value = e.value }

  abbrev pub expr_step : Expr-F Node StepNode Pair Part Linked Step → Part
  expr_step e = e.node e.spot

  abbrev pub link_step : Link-F Node StepNode Pair Part Linked Step → Linked
  link_step l = record { operator = l.operator; operand = l.operand }

  abbrev pub suffix_step : Suffix-F Node StepNode Pair Part Linked Step → Step
  suffix_step s = record { kind = s.node.kind; found = s.node.found s.spot }

  abbrev pub part_of : Expr → Part
  part_of = fold-Expr Node StepNode Pair Part Linked Step node_step suffix_node_step entry_step expr_step link_step suffix_step

  abbrev pub link_part : Link → Linked
  link_part = fold-Link Node StepNode Pair Part Linked Step node_step suffix_node_step entry_step expr_step link_step suffix_step

  abbrev pub entry_part : Entry → Pair
  entry_part = fold-Entry Node StepNode Pair Part Linked Step node_step suffix_node_step entry_step expr_step link_step suffix_step

  abbrev pub step_of : Suffix → Step
  step_of = fold-Suffix Node StepNode Pair Part Linked Step node_step suffix_node_step entry_step expr_step link_step suffix_step

  abbrev pub expr_found : Expr → Demand → Found TypedExpr
  expr_found e demand = and_then (part_of e demand) typed_of
