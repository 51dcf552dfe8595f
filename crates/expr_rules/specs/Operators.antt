-- What operators take and give. Of a value whose shape isn't known no fault comes.
use Rattle.std.specs.Prelude.{if◌then◌else◌, List, [], ◌∷◌, ◌++◌, Option, Some, None}
use Rattle.span_text.specs.declared.spot.Spot.{Spot}
use Rattle.epl_values.specs.declared.shape.Shape.{Shape, Shape-F, out-Shape}
use Rattle.epl_values.specs.declared.shape.Shape.TheVariants as shape
use Rattle.epl_values.specs.declared.shape.Shape.TheOpen as layer
use Rattle.epl_tree.specs.declared.expression.Comparison.{Comparison}
use Rattle.epl_tree.specs.declared.expression.Comparison.TheVariants as comparison
use Rattle.epl_tree.specs.declared.expression.Operator.{Operator}
use Rattle.epl_tree.specs.declared.expression.Operator.TheVariants as operator
use Rattle.typed_program.specs.declared.expression.TypedExpr.{TypedExpr, out-TypedExpr}
use Rattle.typed_program.specs.declared.expression.TypedNode.{TypedNode}
use Rattle.typed_program.specs.declared.expression.TypedNode.TheVariants as made
use Rattle.typed_program.specs.declared.expression.TypedLink.{TypedLink, roll-TypedLink}
use Rattle.type_table.specs.Found.{Found}
use Rattle.expr_rules.specs.declared.operators.Sort.{Sort}
use Rattle.expr_rules.specs.declared.operators.Sort.TheVariants as sort
use Rattle.expr_rules.specs.declared.operators.Logic.{Logic}
use Rattle.expr_rules.specs.declared.operators.Logic.TheVariants as logic
use Rattle.expr_rules.specs.declared.operators.Chain.{Chain}
use Rattle.expr_rules.specs.declared.operators.LinkChain.{LinkChain}
use Rattle.expr_rules.specs.declared.operators.Level.{Level}
use Rattle.expr_rules.specs.declared.operators.Level.TheVariants as level
use Rattle.expr_rules.specs.declared.placed.Gives.{Gives}
use Rattle.expr_rules.specs.declared.placed.Gives.TheVariants as gives
use Rattle.expr_rules.specs.declared.placed.Judged.{Judged}
use Rattle.expr_rules.specs.Asked.{Demand, operand, negated}
use Rattle.expr_rules.specs.Places.{stands, shape_of_expr}
use Rattle.expr_rules.specs.Then.{node, and_then, sound, through}

abbrev pub sort_of_layer : Shape-F Shape → Sort
sort_of_layer layer.Integer = sort.Integer
sort_of_layer layer.Boolean = sort.Boolean
sort_of_layer layer.Text = sort.Text
sort_of_layer s = sort.Other

unfoldable pub sort_of : Option Shape → Sort
sort_of None = sort.Unknown
sort_of (Some s) = sort_of_layer (out-Shape s)

abbrev pub sort_of_expr : TypedExpr → Sort
sort_of_expr e = sort_of (shape_of_expr e)

-- a boolean, or what isn't known
abbrev pub truth : Sort → Option Sort
truth sort.Boolean = Some sort.Boolean
truth sort.Unknown = Some sort.Boolean
truth s = None

-- an integer, or what isn't known
abbrev pub number : Sort → Option Sort
number sort.Integer = Some sort.Integer
number sort.Unknown = Some sort.Integer
number s = None

-- what two operands are, where each of them is that
abbrev pub both : Option Sort → Option Sort → Option Sort
both (Some s) (Some t) = Some s
both s t = None

-- what two operands of one scalar type are
abbrev pub alike : Sort → Sort → Option Sort
alike sort.Unknown t = Some t
alike s sort.Unknown = Some s
alike sort.Integer sort.Integer = Some sort.Integer
alike sort.Boolean sort.Boolean = Some sort.Boolean
alike sort.Text sort.Text = Some sort.Text
alike s t = None

abbrev pub scalar_truth : Option Sort → Option Sort
scalar_truth None = None
scalar_truth (Some sort.Other) = None
scalar_truth (Some s) = Some sort.Boolean

abbrev pub order_truth : Option Sort → Option Sort
order_truth None = None
order_truth (Some sort.Other) = None
order_truth (Some sort.Boolean) = None
order_truth (Some s) = Some sort.Boolean

-- two integers or two texts
abbrev pub addable : Option Sort → Option Sort
addable None = None
addable (Some sort.Other) = None
addable (Some sort.Boolean) = None
addable (Some s) = Some s

-- what operators give, where they are defined for their operands
abbrev pub compared : Comparison → Sort → Sort → Option Sort
compared comparison.Equal s t = scalar_truth (alike s t)
compared comparison.NotEqual s t = scalar_truth (alike s t)
compared c s t = order_truth (alike s t)

abbrev pub linked : Operator → Sort → Sort → Option Sort
linked operator.Add s t = addable (alike s t)
linked o s t = both (number s) (number t)

abbrev pub truths : Sort → Sort → Option Sort
truths s t = both (truth s) (truth t)

abbrev pub given_by : Sort → Gives
given_by sort.Integer = gives.Value shape.Integer
given_by sort.Boolean = gives.Value shape.Boolean
given_by sort.Text = gives.Value shape.Text
given_by s = gives.Unknown

-- an operator at its place; 10 where it isn't defined for its operands
abbrev pub operated : Spot → Demand → Option Sort → TypedNode → Found Judged
operated spot demand (Some s) n = stands spot demand None None (given_by s) n
operated spot demand None n = stands spot demand (Some 10) None gives.Unknown n

-- two operands inside a chain; 10 where the operator isn't defined for them
abbrev pub paired : Spot → Option Sort → Found Sort
paired spot (Some s) = node spot [] s
paired spot None = node spot (10 ∷ []) sort.Unknown

abbrev pub Part : Type 0
Part = Demand → Found Judged

unfoldable pub not_of : Spot → Demand → Judged → Found Judged
not_of spot demand j = operated spot demand (truth (sort_of_expr j.typed)) (made.Not j.typed)

abbrev pub not_found : Part → Spot → Demand → Found Judged
not_found part spot demand = and_then (part operand) (not_of spot demand)

-- a minus; right before a literal it is part of it
abbrev pub minus_node : Judged → TypedNode
minus_node j = if j.signed then (out-TypedExpr j.typed).node else made.Minus j.typed

unfoldable pub minus_of : Spot → Demand → Judged → Found Judged
minus_of spot demand j = operated spot demand (number (sort_of_expr j.typed)) (minus_node j)

abbrev pub minus_found : Part → Spot → Demand → Found Judged
minus_found part spot demand = and_then (part negated) (minus_of spot demand)

unfoldable pub comparison_of : Spot → Demand → Comparison → Judged → Judged → Found Judged
comparison_of spot demand c left right = operated spot demand (compared c (sort_of_expr left.typed) (sort_of_expr right.typed)) (made.Compare left.typed c right.typed)

-- the right operand, behind the left one
unfoldable pub comparison_right : Spot → Demand → Comparison → Part → Judged → Found Judged
comparison_right spot demand c right left = and_then (right operand) (comparison_of spot demand c left)

abbrev pub comparison_found : Part → Comparison → Part → Spot → Demand → Found Judged
comparison_found left c right spot demand = and_then (left operand) (comparison_right spot demand c right)

-- a chain of `or`, `xor` or `and`, grouped to the left
abbrev pub with_operand : Chain → TypedExpr → Sort → Found Chain
with_operand chain e s = sound (record { first = chain.first; sort = s; operands = chain.operands ++ e ∷ [] })

unfoldable pub joined : Spot → Chain → Judged → Found Chain
joined spot chain j = and_then (paired spot (truths chain.sort (sort_of_expr j.typed))) (with_operand chain j.typed)

abbrev pub join_found : Spot → Chain → Part → Found Chain
join_found spot chain part = and_then (part operand) (joined spot chain)

abbrev pub logic_node : Logic → TypedExpr → List TypedExpr → TypedNode
logic_node logic.Or first operands = made.Or first operands
logic_node logic.Xor first operands = made.Xor first operands
logic_node logic.And first operands = made.And first operands

-- a chain is a boolean, also one of a single operand
unfoldable pub chain_of : Spot → Demand → Logic → Chain → Found Judged
chain_of spot demand l chain = operated spot demand (truth chain.sort) (logic_node l chain.first chain.operands)

abbrev pub chain_start : Judged → Chain
chain_start j = record { first = j.typed; sort = sort_of_expr j.typed; operands = [] }

-- the other operands, behind the first one
unfoldable pub logic_rest : Logic → List Part → Spot → Demand → Judged → Found Judged
logic_rest l parts spot demand first = and_then (through (join_found spot) (chain_start first) parts) (chain_of spot demand l)

abbrev pub logic_found : Logic → Part → List Part → Spot → Demand → Found Judged
logic_found l first parts spot demand = and_then (first operand) (logic_rest l parts spot demand)

-- a chain of `+` and `-`, or of `*`, `/` and `%`, grouped to the left
pub record Linked : Type 0 where
  pub operator : Operator
  pub operand : Part

abbrev pub with_link : LinkChain → Operator → TypedExpr → Sort → Found LinkChain
with_link chain o e s = sound (record { first = chain.first; sort = s; links = chain.links ++ roll-TypedLink record { operator = o; operand = e } ∷ [] })

unfoldable pub link_of : Spot → LinkChain → Operator → Judged → Found LinkChain
link_of spot chain o j = and_then (paired spot (linked o chain.sort (sort_of_expr j.typed))) (with_link chain o j.typed)

abbrev pub link_found : Spot → LinkChain → Linked → Found LinkChain
link_found spot chain l = and_then (l.operand operand) (link_of spot chain l.operator)

abbrev pub level_node : Level → TypedExpr → List TypedLink → TypedNode
level_node level.Sum first links = made.Sum first links
level_node level.Product first links = made.Product first links

-- a chain is an integer or a text, also one of a single operand
unfoldable pub links_of : Spot → Demand → Level → LinkChain → Found Judged
links_of spot demand l chain = operated spot demand (addable (Some chain.sort)) (level_node l chain.first chain.links)

abbrev pub links_start : Judged → LinkChain
links_start j = record { first = j.typed; sort = sort_of_expr j.typed; links = [] }

-- the other operands, behind the first one
unfoldable pub links_rest : Level → List Linked → Spot → Demand → Judged → Found Judged
links_rest l links spot demand first = and_then (through (link_found spot) (links_start first) links) (links_of spot demand l)

abbrev pub links_found : Level → Part → List Linked → Spot → Demand → Found Judged
links_found l first links spot demand = and_then (first operand) (links_rest l links spot demand)
