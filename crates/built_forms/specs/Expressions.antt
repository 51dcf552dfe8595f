-- Forms of expressions that aren't built: `context(..)` and `context.current()`. Each is listed by the spot of its first token,
-- in the order of the source; what stands inside of it isn't looked at.
use Rattle.std.specs.Prelude.{List, [], ◌∷◌, ◌++◌, Option, Some, None}
use Rattle.span_text.specs.declared.spot.Spot.{Spot}
use Rattle.epl_tree.specs.declared.expression.Expr.{Expr, Expr-F, fold-Expr}
use Rattle.epl_tree.specs.declared.expression.ExprNode.{ExprNode-F}
use Rattle.epl_tree.specs.declared.expression.ExprNode.TheOpen as expr
use Rattle.epl_tree.specs.declared.expression.Link.{Link, Link-F, fold-Link}
use Rattle.epl_tree.specs.declared.expression.Entry.{Entry, Entry-F, fold-Entry}
use Rattle.epl_tree.specs.declared.expression.Suffix.{Suffix, Suffix-F, fold-Suffix}
use Rattle.epl_tree.specs.declared.expression.SuffixNode.{SuffixNode-F}
use Rattle.built_forms.specs.Rows.{joined}

-- where forms that aren't built stand, in the order of the source
abbrev pub Spots : Type 0
Spots = List Spot

-- a node at the spot of its expression or suffix
abbrev pub At : Type 0
At = Spot → Spots

-- the parts of an expression in their order; `context` is itself such a form
abbrev pub expr_node : ExprNode-F At At Spots Spots Spots Spots → At
expr_node (expr.Or first rest) spot = first ++ joined rest
expr_node (expr.Xor first rest) spot = first ++ joined rest
expr_node (expr.And first rest) spot = first ++ joined rest
expr_node (expr.Not part) spot = part
expr_node (expr.Compare left c right) spot = left ++ right
expr_node (expr.Sum first links) spot = first ++ joined links
expr_node (expr.Product first links) spot = first ++ joined links
expr_node (expr.Minus part) spot = part
expr_node (expr.Postfix first suffixes) spot = first ++ joined suffixes
expr_node (expr.Integer digits) spot = []
expr_node (expr.Quoted text) spot = []
expr_node (expr.Boolean b) spot = []
expr_node (expr.Name text) spot = []
expr_node (expr.Call text args) spot = joined args
expr_node (expr.Sequence items) spot = joined items
expr_node (expr.Dictionary entries) spot = joined entries
expr_node (expr.New type) spot = []
expr_node (expr.Context args) spot = spot ∷ []
expr_node expr.ContextCurrent spot = spot ∷ []
expr_node (expr.Group part) spot = part

-- the arguments of a method, and the place in brackets
abbrev pub suffix_node : SuffixNode-F At At Spots Spots Spots Spots → At
suffix_node (expr.Field text) spot = []
suffix_node (expr.Method text args) spot = joined args
suffix_node (expr.Index part) spot = part

-- the key, and then the value
abbrev pub entry_step : Entry-F At At Spots Spots Spots Spots → Spots
entry_step entry = entry.key ++ entry.value

-- an expression, a link and a suffix by their nodes
abbrev pub expr_step : Expr-F At At Spots Spots Spots Spots → Spots
expr_step e = e.node e.spot

abbrev pub link_step : Link-F At At Spots Spots Spots Spots → Spots
link_step link = link.operand

abbrev pub suffix_step : Suffix-F At At Spots Spots Spots Spots → Spots
suffix_step s = s.node s.spot

-- the forms in an expression that aren't built
abbrev pub missing_in : Expr → Spots
missing_in = fold-Expr At At Spots Spots Spots Spots expr_node suffix_node entry_step expr_step link_step suffix_step

-- in a suffix, a link and an entry
abbrev pub missing_in_suffix : Suffix → Spots
missing_in_suffix = fold-Suffix At At Spots Spots Spots Spots expr_node suffix_node entry_step expr_step link_step suffix_step

abbrev pub missing_in_link : Link → Spots
missing_in_link = fold-Link At At Spots Spots Spots Spots expr_node suffix_node entry_step expr_step link_step suffix_step

abbrev pub missing_in_entry : Entry → Spots
missing_in_entry = fold-Entry At At Spots Spots Spots Spots expr_node suffix_node entry_step expr_step link_step suffix_step

-- of an expression that may be left out
abbrev pub missing_in_optional : Option Expr → Spots
missing_in_optional None = []
missing_in_optional (Some e) = missing_in e
