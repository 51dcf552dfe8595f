-- Statements in order of the source: a statement's own codes at its first token, and then its parts.
use Rattle.std.specs.Prelude.{ℕ, ◌+◌, ◌==◌, Bool, true, false, ◌||◌, not, nat_le, List, [], ◌∷◌, ◌++◌, length, map, Option, Some, None, slice_get, codes, if◌then◌else◌}
use Rattle.std.specs.Option.{option_map}
use Rattle.std.specs.Str.{bytes_eq}
use Rattle.span_text.specs.declared.spot.Spot.{Spot}
use Rattle.epl_values.specs.declared.shape.Shape.{Shape, Shape-F, out-Shape}
use Rattle.epl_values.specs.declared.shape.Shape.TheVariants as shape
use Rattle.epl_values.specs.declared.shape.Shape.TheOpen as layer
use Rattle.epl_tree.specs.declared.event.EventExpr.{EventExpr}
use Rattle.epl_tree.specs.declared.expression.Expr.{Expr}
use Rattle.epl_tree.specs.declared.name.Name.{Name}
use Rattle.epl_tree.specs.declared.statement.Level.{Level}
use Rattle.epl_tree.specs.declared.statement.Place.{Place}
use Rattle.epl_tree.specs.declared.statement.Stmt.{Stmt as Tree, Stmt-F, fold-Stmt}
use Rattle.epl_tree.specs.declared.statement.StmtNode.{StmtNode-F, map-StmtNode}
use Rattle.epl_tree.specs.declared.statement.StmtNode.TheOpen as stmt
use Rattle.epl_tree.specs.declared.statement.Listening.{Listening, Listening-F, fold-Listening, map-Listening}
use Rattle.epl_tree.specs.declared.types.TypeExpr.{TypeExpr}
use Rattle.typed_program.specs.declared.expression.TypedExpr.{TypedExpr, out-TypedExpr}
use Rattle.typed_program.specs.declared.program.TypedTerm.{TypedTerm}
use Rattle.typed_program.specs.declared.statement.Stmt.{Stmt}
use Rattle.typed_program.specs.declared.statement.Stmt.TheVariants as made
use Rattle.type_table.specs.declared.table.Table.{Table}
use Rattle.type_table.specs.declared.table.ActionHead.{ActionHead}
use Rattle.type_table.specs.declared.table.ParamHead.{ParamHead}
use Rattle.type_table.specs.declared.table.ResultHead.{ResultHead}
use Rattle.type_table.specs.declared.table.ResultHead.TheVariants as result
use Rattle.type_table.specs.declared.scope.SeenKind.TheVariants as kind
use Rattle.type_table.specs.Types.{type_found}
use Rattle.expr_check.specs.declared.check.Target.{Target}
use Rattle.expr_rules.specs.Asked.{Wish, Statement, Exactly, Event, Sequence, Channel, Demand, asked_by, paths_where, like, fixing}
use Rattle.expr_rules.specs.Calls.{typed_arguments}
use Rattle.expr_check.specs.Checks.{place_found}
use Rattle.expr_check.specs.Expressions.{expr_found, part_of as expr_part}
use Rattle.listener_check.specs.Terms.{term_found}
use Rattle.stmt_check.specs.declared.state.State.{State}
use Rattle.stmt_check.specs.Bodies.{Around, in_loop, in_callback, when, name_read, local_read, scoped, captured_in, bound_in, callback_start, callback_end, action_named, is_special}
use Rattle.stmt_check.specs.Captures.{Names, stmt_node, listening_step}
use Rattle.stmt_check.specs.Steps.{Reads, ◌>>=◌, pure, given, looks, tells, within, reads_by, each, optional}

-- ---- expressions at their places

abbrev pub asked : Wish → Bool → Demand
asked wish path = asked_by wish (paths_where path)

abbrev pub exactly : Shape → Demand
exactly s = asked (Exactly s) false

-- a shape where it is known, and else any value
abbrev pub wanted : Option Shape → Demand
wanted s = asked (like s) false

-- a value of the shape of its place, though that may not be known
abbrev pub for_place : Option Shape → Demand
for_place s = asked (fixing s) false

-- the shape of what is assigned, where it is known
abbrev pub target_shape : Target → Option Shape
target_shape to = if to.known then Some to.place.shape else None

abbrev pub reads : Table → Demand → Expr → Reads State TypedExpr
reads table demand e = looks (λ s. expr_found table s.scope e demand)

abbrev pub is_listener_layer : Shape-F Shape → Bool
is_listener_layer layer.Listener = true
is_listener_layer s = false

unfoldable pub is_listener : Shape → Bool
is_listener s = is_listener_layer (out-Shape s)

-- whether a listener may stand where this shape is asked
abbrev pub takes_listener : Option Shape → Bool
takes_listener (Some s) = is_listener s
takes_listener None = true

abbrev pub element_layer : Shape-F Shape → Option Shape
element_layer (layer.Sequence item) = Some item
element_layer s = None

unfoldable pub element_of : Option Shape → Option Shape
element_of (Some s) = element_layer (out-Shape s)
element_of None = None

abbrev pub shape_of : TypedExpr → Option Shape
shape_of e = (out-TypedExpr e).shape

-- ---- statements without parts that are statements

abbrev pub has_result : ResultHead → Bool
has_result result.Nothing = false
has_result r = true

-- 8 for another count, 20 for an action that isn't to be spawned
abbrev pub spawn_codes : ActionHead → ℕ → List ℕ
spawn_codes action count = when (not (count == length action.params)) 8 ++ when (is_special action.name || has_result action.result) 20

abbrev pub is_subscribe : List ℕ → Bool
is_subscribe name = bytes_eq name (codes "subscribe")

abbrev pub is_unsubscribe : List ℕ → Bool
is_unsubscribe name = bytes_eq name (codes "unsubscribe")

-- 6 for another name, 8 for another count
abbrev pub control_codes : List ℕ → ℕ → List ℕ
control_codes name count = when (not (is_subscribe name || is_unsubscribe name)) 6 ++ when (not (count == 1)) 8

abbrev pub control : List ℕ → TypedExpr → Stmt
control name channel = elim (is_subscribe name) [ true ↦ made.Subscribe channel | false ↦ made.Unsubscribe channel ]

module _ (table : Table) where
  abbrev pub print_read : Expr → Reads State Stmt
  print_read text = reads table (exactly shape.Text) text >>= λ text. pure (made.Print text)

  abbrev pub log_read : Expr → Level → Reads State Stmt
  log_read text level = reads table (exactly shape.Text) text >>= λ text. pure (made.Log text level)

  abbrev pub route_read : Expr → Reads State Stmt
  route_read value = reads table (asked Event true) value >>= λ value. pure (made.Route value)

  abbrev pub send_read : Expr → Expr → Reads State Stmt
  send_read value to = reads table (asked Event true) value >>= λ value. reads table (asked Channel false) to >>= λ to. pure (made.Send value to)

  abbrev pub call_read : Expr → Reads State Stmt
  call_read e = reads table (asked Statement false) e >>= λ e. pure (made.Call e)

  abbrev pub maybe_read : Demand → Option Expr → Reads State (Option TypedExpr)
  maybe_read demand e = optional (option_map (reads table demand) e)

  -- ---- locals

  abbrev pub declare_read : TypeExpr → Name → Reads State Stmt
  declare_read type name = given (type_found table type) >>= λ shape. name_read name >>= λ _. local_read kind.Local name.text (Some shape) >>= λ number. pure (made.Declare number shape)

  abbrev pub declare_as_read : TypeExpr → Name → Expr → Reads State Stmt
  declare_as_read type name value = given (type_found table type) >>= λ shape. name_read name >>= λ _. reads table (exactly shape) value >>= λ value. local_read kind.Local name.text (Some shape) >>= λ number. pure (made.DeclareAs number value)

  abbrev pub assign_read : Place → Expr → Reads State Stmt
  assign_read place value = looks (λ s. place_found table s.scope place) >>= λ to. reads table (for_place (target_shape to)) value >>= λ value. pure (made.Assign to.place value)

  -- ---- `spawn` and `monitor.`

  -- the arguments of an action, none of which may be a path of reference type
  abbrev pub args_read : List ParamHead → List Expr → Reads State (List TypedExpr)
  args_read params args = looks (λ s. typed_arguments false params (map (expr_part table s.scope) args))

  abbrev pub begun_read : Spot → ActionHead → List Expr → Option Expr → Reads State Stmt
  begun_read spot action args to = tells spot (λ s. spawn_codes action (length args)) >>= λ _. args_read action.params args >>= λ args. maybe_read (exactly shape.Context) to >>= λ to. pure (made.Spawn action.number args to)

  abbrev pub spawned_read : Spot → Option ActionHead → List Expr → Option Expr → Reads State Stmt
  spawned_read spot None args to = tells spot (λ s. 6 ∷ []) >>= λ _. pure made.Die
  spawned_read spot (Some action) args to = begun_read spot action args to

  abbrev pub spawn_read : Spot → List ℕ → List Expr → Option Expr → Reads State Stmt
  spawn_read spot name args to = reads_by (λ s. spawned_read spot (action_named table s.scope.monitor name) args to)

  abbrev pub channel_read : List ℕ → Option Expr → Reads State Stmt
  channel_read name None = pure made.Die
  channel_read name (Some e) = reads table (exactly shape.Text) e >>= λ channel. pure (control name channel)

  abbrev pub monitor_read : Spot → List ℕ → List Expr → Reads State Stmt
  monitor_read spot name args = tells spot (λ s. control_codes name (length args)) >>= λ _. channel_read name (slice_get args 0)

-- 16: a value exactly where the body has a result
abbrev pub return_codes : Option Shape → Option Expr → List ℕ
return_codes None None = []
return_codes (Some s) (Some e) = []
return_codes shape e = 16 ∷ []

abbrev pub return_read : Around → Spot → Option Expr → Reads State Stmt
return_read around spot e = tells spot (λ s. return_codes around.result e) >>= λ _. maybe_read around.table (wanted around.result) e >>= λ value. pure (made.Return value)

-- 15 outside a loop of the same body
abbrev pub jump_read : Around → Spot → Stmt → Reads State Stmt
jump_read around spot jump = tells spot (λ s. when (not around.looped) 15) >>= λ _. pure jump

-- ---- statements with parts

-- what a statement names, and how it is read
pub record Part : Type 0 where
  pub names : Names
  pub reads : Around → Reads State Stmt

pub record NodePart : Type 0 where
  pub names : Names
  pub reads : Around → Spot → Reads State Stmt

-- a listener, where one may stand or may not; it gives the number of its site
pub record OnPart : Type 0 where
  pub names : Names
  pub reads : Around → Bool → Reads State ℕ

-- statements in a row
abbrev pub row_read : Around → List Part → Reads State (List Stmt)
row_read around parts = each (map (λ p. p.reads around) parts)

abbrev pub block_read : Around → List Part → Reads State Stmt
block_read around parts = scoped (row_read around parts) >>= λ parts. pure (made.Block parts)

abbrev pub other_read : Around → Option Part → Reads State (Option Stmt)
other_read around part = optional (option_map (λ p. scoped (p.reads around)) part)

abbrev pub if_read : Around → Expr → Part → Option Part → Reads State Stmt
if_read around test part other = reads around.table (exactly shape.Boolean) test >>= λ test. scoped (part.reads around) >>= λ part. other_read around other >>= λ other. pure (made.If test part other)

abbrev pub while_read : Around → Expr → List Part → Reads State Stmt
while_read around test parts = reads around.table (exactly shape.Boolean) test >>= λ test. scoped (row_read (in_loop around) parts) >>= λ parts. pure (made.While test parts)

-- the loop variable, and the rows of its turns
abbrev pub turn_read : Around → Name → TypedExpr → List Part → Reads State Stmt
turn_read around name items parts = local_read kind.Loop name.text (element_of (shape_of items)) >>= λ number. row_read (in_loop around) parts >>= λ parts. pure (made.For number items parts)

abbrev pub for_read : Around → Name → Expr → List Part → Reads State Stmt
for_read around name items parts = name_read name >>= λ _. reads around.table (asked Sequence true) items >>= λ items. scoped (turn_read around name items parts)

abbrev pub on_read : Around → OnPart → Reads State Stmt
on_read around on = on.reads around true >>= λ site. pure (made.On site)

abbrev pub declare_on_read : Around → TypeExpr → Name → OnPart → Reads State Stmt
declare_on_read around type name on = given (type_found around.table type) >>= λ shape. name_read name >>= λ _. on.reads around (takes_listener (Some shape)) >>= λ site. local_read kind.Local name.text (Some shape) >>= λ number. pure (made.DeclareOn number site)

abbrev pub assign_on_read : Around → Place → OnPart → Reads State Stmt
assign_on_read around place on = looks (λ s. place_found around.table s.scope place) >>= λ to. on.reads around (takes_listener (target_shape to)) >>= λ site. pure (made.AssignOn to.place site)

abbrev pub node_reads : StmtNode-F NodePart OnPart Part → Around → Spot → Reads State Stmt
node_reads (stmt.Block parts) around spot = block_read around parts
node_reads (stmt.On on) around spot = on_read around on
node_reads (stmt.Declare type name) around spot = declare_read around.table type name
node_reads (stmt.DeclareAs type name value) around spot = declare_as_read around.table type name value
node_reads (stmt.DeclareOn type name on) around spot = declare_on_read around type name on
node_reads (stmt.Assign place value) around spot = assign_read around.table place value
node_reads (stmt.AssignOn place on) around spot = assign_on_read around place on
node_reads (stmt.If test part other) around spot = if_read around test part other
node_reads (stmt.While test parts) around spot = while_read around test parts
node_reads (stmt.For name items parts) around spot = for_read around name items parts
node_reads stmt.Break around spot = jump_read around spot made.Break
node_reads stmt.Continue around spot = jump_read around spot made.Continue
node_reads (stmt.Return value) around spot = return_read around spot value
node_reads stmt.Die around spot = pure made.Die
node_reads (stmt.Print text) around spot = print_read around.table text
node_reads (stmt.Log text level) around spot = log_read around.table text level
node_reads (stmt.Route value) around spot = route_read around.table value
node_reads (stmt.Send value to) around spot = send_read around.table value to
node_reads (stmt.Spawn name args to) around spot = spawn_read around.table spot name args to
node_reads (stmt.Monitor name args) around spot = monitor_read around.table spot name args
node_reads (stmt.Call e) around spot = call_read around.table e

-- ---- listeners

-- 9 where no listener may stand, 4 for a body past the last, and where more names are visible than a callback can number
abbrev pub on_codes : Around → Bool → State → List ℕ
on_codes around takes s = when (not takes) 9 ++ when (nat_le 65535 (around.bodies + around.callbacks + length s.sites) || nat_le 65000 (length s.scope.names)) 4

abbrev pub callback_read : Around → EventExpr → Part → TypedTerm → Reads State ℕ
callback_read around event callback term = reads_by (λ s.
    let captured = captured_in callback.names s.scope.names in
    within (callback_start captured (bound_in around.table s.scope event)) (callback_end around term captured) (callback.reads (in_callback around)))

abbrev pub listen_read : Around → Bool → Spot → EventExpr → Part → Reads State ℕ
listen_read around takes spot event callback = tells spot (on_codes around takes) >>= λ _. looks (λ s. term_found around.table s.scope event) >>= λ term. callback_read around event callback term

-- ---- the fold

abbrev pub node_names : StmtNode-F NodePart OnPart Part → Names
node_names n = stmt_node (map-StmtNode NodePart OnPart Part Names Names Names (λ p. p.names) (λ p. p.names) (λ p. p.names) n)

abbrev pub on_names : Listening-F NodePart OnPart Part → Names
on_names on = listening_step (map-Listening NodePart OnPart Part Names Names Names (λ p. p.names) (λ p. p.names) (λ p. p.names) on)

abbrev pub node_part : StmtNode-F NodePart OnPart Part → NodePart
node_part n = record { names = node_names n; reads = node_reads n }

abbrev pub on_part : Listening-F NodePart OnPart Part → OnPart
on_part on = record { names = on_names on; reads = λ around takes. listen_read around takes on.spot on.event on.callback }

abbrev pub stmt_part : Stmt-F NodePart OnPart Part → Part
stmt_part s = record { names = s.node.names; reads = λ around. s.node.reads around s.spot }

unfoldable pub part_of : Tree → Part
part_of = fold-Stmt NodePart OnPart Part node_part on_part stmt_part

unfoldable pub on_part_of : Listening → OnPart
on_part_of = fold-Listening NodePart OnPart Part node_part on_part stmt_part
