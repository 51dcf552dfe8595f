-- Expressions that call no action, and so leave the variables as they are.
use Rattle.std.specs.Prelude.{Bool, true, false, ◌&&◌, List}
use Rattle.std.specs.List.{list_all}
use Rattle.typed_program.specs.declared.expression.TypedExpr.{TypedExpr}
use Rattle.typed_program.specs.declared.expression.TypedSuffix.{TypedSuffix}
use Rattle.typed_program.specs.declared.expression.TypedNode.TheOpen.{TypedNode-F, TypedSuffixNode-F, TypedEntry-F, TypedExpr-F, TypedLink-F, TypedSuffix-F}
use Rattle.typed_program.specs.declared.expression.TypedNode.TheFolds.{fold-TypedExpr, fold-TypedSuffix}

-- whether each part is calm
abbrev pub all_so : List Bool → Bool
all_so parts = list_all (λ p. p) parts

-- a node by its parts: a call of an action is never calm, and what has no parts always
abbrev pub node_calm : TypedNode-F Bool Bool Bool Bool Bool Bool → Bool
node_calm (TypedNode-F.Or first rest) = first && all_so rest
node_calm (TypedNode-F.Xor first rest) = first && all_so rest
node_calm (TypedNode-F.And first rest) = first && all_so rest
node_calm (TypedNode-F.Not e) = e
node_calm (TypedNode-F.Compare left c right) = left && right
node_calm (TypedNode-F.Sum first rest) = first && all_so rest
node_calm (TypedNode-F.Product first rest) = first && all_so rest
node_calm (TypedNode-F.Minus e) = e
node_calm (TypedNode-F.Postfix first steps) = first && all_so steps
node_calm (TypedNode-F.Action n arguments) = false
node_calm (TypedNode-F.Event n arguments) = all_so arguments
node_calm (TypedNode-F.Sequence items) = all_so items
node_calm (TypedNode-F.Dictionary pairs) = all_so pairs
node_calm (TypedNode-F.Context arguments) = all_so arguments
node_calm n = true

-- a step of a path by its index, its key or its arguments
abbrev pub step_calm : TypedSuffixNode-F Bool Bool Bool Bool Bool Bool → Bool
step_calm (TypedSuffixNode-F.Field n) = true
step_calm (TypedSuffixNode-F.Item index) = index
step_calm (TypedSuffixNode-F.Key key) = key
step_calm (TypedSuffixNode-F.Method m arguments) = all_so arguments

-- an entry by its key and its value
abbrev pub entry_calm : TypedEntry-F Bool Bool Bool Bool Bool Bool → Bool
entry_calm e = e.key && e.value

-- an expression by its node
abbrev pub expr_calm : TypedExpr-F Bool Bool Bool Bool Bool Bool → Bool
expr_calm e = e.node

-- a link of a sum or a product by its operand
abbrev pub link_calm : TypedLink-F Bool Bool Bool Bool Bool Bool → Bool
link_calm l = l.operand

-- a step by what it is
abbrev pub suffix_calm : TypedSuffix-F Bool Bool Bool Bool Bool Bool → Bool
suffix_calm u = u.node

-- whether an expression calls no action
unfoldable pub is_calm : TypedExpr → Bool
is_calm = fold-TypedExpr Bool Bool Bool Bool Bool Bool node_calm step_calm entry_calm expr_calm link_calm suffix_calm

-- whether a step of a path calls no action
unfoldable pub is_calm_step : TypedSuffix → Bool
is_calm_step = fold-TypedSuffix Bool Bool Bool Bool Bool Bool node_calm step_calm entry_calm expr_calm link_calm suffix_calm

-- whether none of several expressions calls an action
abbrev pub are_calm : List TypedExpr → Bool
are_calm es = list_all is_calm es
