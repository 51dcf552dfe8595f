-- Which names a part of a program names as variables, at any depth: in expressions, in places, in event expressions and
-- in callbacks.
use Rattle.std.specs.Prelude.{ℕ, Bool, false, List, [], ◌∷◌, ◌||◌, map, Option, Some, None}
use Rattle.std.specs.Str.{bytes_eq}
use Rattle.epl_tree.specs.declared.expression.Expr.{Expr, Expr-F, fold-Expr}
use Rattle.epl_tree.specs.declared.expression.ExprNode.{ExprNode-F}
use Rattle.epl_tree.specs.declared.expression.ExprNode.TheOpen as expr
use Rattle.epl_tree.specs.declared.expression.Entry.{Entry, Entry-F, fold-Entry}
use Rattle.epl_tree.specs.declared.expression.Link.{Link, Link-F, fold-Link}
use Rattle.epl_tree.specs.declared.expression.Suffix.{Suffix, Suffix-F, fold-Suffix}
use Rattle.epl_tree.specs.declared.expression.SuffixNode.{SuffixNode-F}
use Rattle.epl_tree.specs.declared.event.EventExpr.{EventExpr, EventExpr-F, fold-EventExpr}
use Rattle.epl_tree.specs.declared.event.EventNode.{EventNode-F}
use Rattle.epl_tree.specs.declared.event.EventNode.TheOpen as event
use Rattle.epl_tree.specs.declared.event.Constraint.{Constraint}
use Rattle.epl_tree.specs.declared.event.ConstraintNode.{ConstraintNode}
use Rattle.epl_tree.specs.declared.event.ConstraintNode.TheVariants as constraint
use Rattle.epl_tree.specs.declared.event.Duration.{Duration}
use Rattle.epl_tree.specs.declared.event.DurationNode.{DurationNode}
use Rattle.epl_tree.specs.declared.event.DurationNode.TheVariants as duration
use Rattle.epl_tree.specs.declared.event.Range.{Range}
use Rattle.epl_tree.specs.declared.event.Template.{Template}
use Rattle.epl_tree.specs.declared.event.TemplateClause.{TemplateClause}
use Rattle.epl_tree.specs.declared.event.TemplateClause.TheVariants as clause
use Rattle.epl_tree.specs.declared.statement.Place.{Place}
use Rattle.epl_tree.specs.declared.statement.Stmt.{Stmt, Stmt-F, fold-Stmt}
use Rattle.epl_tree.specs.declared.statement.StmtNode.{StmtNode-F}
use Rattle.epl_tree.specs.declared.statement.StmtNode.TheOpen as stmt
use Rattle.epl_tree.specs.declared.statement.Listening.{Listening, Listening-F, fold-Listening}

-- whether a name is named
abbrev pub Names : Type 0
Names = List ℕ → Bool

abbrev pub none : Names
none name = false

abbrev pub either : Names → Names → Names
either one other name = one name || other name

abbrev pub any_of : List Names → Names
any_of [] name = false
any_of (part ∷ parts) name = part name || any_of parts name

abbrev pub if_any : Option Names → Names
if_any None name = false
if_any (Some part) name = part name

-- ---- expressions: a variable by its name; the name of a call, a field or a method is none

abbrev pub expr_node : ExprNode-F Names Names Names Names Names Names → Names
expr_node (expr.Or first rest) = either first (any_of rest)
expr_node (expr.Xor first rest) = either first (any_of rest)
expr_node (expr.And first rest) = either first (any_of rest)
expr_node (expr.Not part) = part
expr_node (expr.Compare left c right) = either left right
expr_node (expr.Sum first links) = either first (any_of links)
expr_node (expr.Product first links) = either first (any_of links)
expr_node (expr.Minus part) = part
expr_node (expr.Postfix first suffixes) = either first (any_of suffixes)
expr_node (expr.Integer digits) = none
expr_node (expr.Quoted text) = none
expr_node (expr.Boolean b) = none
expr_node (expr.Name text) = bytes_eq text
expr_node (expr.Call text args) = any_of args
expr_node (expr.Sequence items) = any_of items
expr_node (expr.Dictionary entries) = any_of entries
expr_node (expr.New type) = none
expr_node (expr.Context args) = any_of args
expr_node expr.ContextCurrent = none
expr_node (expr.Group part) = part

abbrev pub suffix_node : SuffixNode-F Names Names Names Names Names Names → Names
suffix_node (expr.Field text) = none
suffix_node (expr.Method text args) = any_of args
suffix_node (expr.Index part) = part

abbrev pub entry_step : Entry-F Names Names Names Names Names Names → Names
entry_step entry = either entry.key entry.value

abbrev pub expr_step : Expr-F Names Names Names Names Names Names → Names
expr_step e = e.node

abbrev pub link_step : Link-F Names Names Names Names Names Names → Names
link_step link = link.operand

abbrev pub suffix_step : Suffix-F Names Names Names Names Names Names → Names
suffix_step s = s.node

abbrev pub expr_names : Expr → Names
expr_names = fold-Expr Names Names Names Names Names Names expr_node suffix_node entry_step expr_step link_step suffix_step

abbrev pub suffix_names : Suffix → Names
suffix_names = fold-Suffix Names Names Names Names Names Names expr_node suffix_node entry_step expr_step link_step suffix_step

abbrev pub link_names : Link → Names
link_names = fold-Link Names Names Names Names Names Names expr_node suffix_node entry_step expr_step link_step suffix_step

abbrev pub entry_names : Entry → Names
entry_names = fold-Entry Names Names Names Names Names Names expr_node suffix_node entry_step expr_step link_step suffix_step

-- ---- places, and event expressions: the name of a constraint's field is none

abbrev pub place_names : Place → Names
place_names place name = bytes_eq place.name name || any_of (map suffix_names place.steps) name

abbrev pub duration_node : DurationNode → Names
duration_node (duration.Decimal digits) name = false
duration_node (duration.Seconds e) name = expr_names e name

abbrev pub duration_names : Duration → Names
duration_names d = duration_node d.node

abbrev pub range_names : Range → Names
range_names range name = expr_names range.low.bound name || expr_names range.high.bound name

abbrev pub constraint_node : ConstraintNode → Names
constraint_node constraint.Any name = false
constraint_node (constraint.Equals e) name = expr_names e name
constraint_node (constraint.Compares c e) name = expr_names e name
constraint_node (constraint.Lies range) name = range_names range name
constraint_node (constraint.NamedCompares field c e) name = expr_names e name
constraint_node (constraint.NamedLies field range) name = range_names range name

abbrev pub constraint_names : Constraint → Names
constraint_names c = constraint_node c.node

abbrev pub clause_names : TemplateClause → Names
clause_names (clause.As bound) name = false
clause_names (clause.Within d) name = duration_names d name

abbrev pub template_names : Template → Names
template_names t name = any_of (map constraint_names t.constraints) name || any_of (map clause_names t.clauses) name

abbrev pub limit_names : Option Duration → Names
limit_names None name = false
limit_names (Some d) name = duration_names d name

abbrev pub event_node : EventNode-F Names Names → Names
event_node (event.Followed first rest) = either first (any_of rest)
event_node (event.Or first rest) = either first (any_of rest)
event_node (event.Xor first rest) = either first (any_of rest)
event_node (event.And first rest) = either first (any_of rest)
event_node (event.All part) = part
event_node (event.Not part) = part
event_node (event.Group part limit) = either part (limit_names limit)
event_node (event.Wait d) = duration_names d
event_node (event.Template t) = template_names t

abbrev pub event_step : EventExpr-F Names Names → Names
event_step e = e.node

abbrev pub event_names : EventExpr → Names
event_names = fold-EventExpr Names Names event_node event_step

-- ---- statements

abbrev pub exprs_name : List Expr → Names
exprs_name parts = any_of (map expr_names parts)

abbrev pub optional_names : Option Expr → Names
optional_names None name = false
optional_names (Some e) name = expr_names e name

abbrev pub stmt_node : StmtNode-F Names Names Names → Names
stmt_node (stmt.Block parts) = any_of parts
stmt_node (stmt.On on) = on
stmt_node (stmt.Declare type name) = none
stmt_node (stmt.DeclareAs type name value) = expr_names value
stmt_node (stmt.DeclareOn type name on) = on
stmt_node (stmt.Assign place value) = either (place_names place) (expr_names value)
stmt_node (stmt.AssignOn place on) = either (place_names place) on
stmt_node (stmt.If test part other) = either (expr_names test) (either part (if_any other))
stmt_node (stmt.While test parts) = either (expr_names test) (any_of parts)
stmt_node (stmt.For name items parts) = either (expr_names items) (any_of parts)
stmt_node stmt.Break = none
stmt_node stmt.Continue = none
stmt_node (stmt.Return value) = optional_names value
stmt_node stmt.Die = none
stmt_node (stmt.Print text) = expr_names text
stmt_node (stmt.Log text level) = expr_names text
stmt_node (stmt.Route value) = expr_names value
stmt_node (stmt.Send value to) = either (expr_names value) (expr_names to)
stmt_node (stmt.Spawn text args to) = either (exprs_name args) (optional_names to)
stmt_node (stmt.Monitor text args) = exprs_name args
stmt_node (stmt.Call e) = expr_names e

abbrev pub listening_step : Listening-F Names Names Names → Names
listening_step on = either (event_names on.event) on.callback

abbrev pub stmt_step : Stmt-F Names Names Names → Names
stmt_step s = s.node

abbrev pub stmt_names : Stmt → Names
stmt_names = fold-Stmt Names Names Names stmt_node listening_step stmt_step

abbrev pub listening_names : Listening → Names
listening_names = fold-Listening Names Names Names stmt_node listening_step stmt_step
