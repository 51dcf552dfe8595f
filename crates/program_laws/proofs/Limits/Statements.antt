-- Every statement leaves room, by induction over its tree.
use Rattle.std.proofs.Common.{◌+◌, ◌∷◌}
use Rattle.program_laws.proofs.Common.{ℕ, map, List, [], Some, None, Bool, Option, IfSome, AllByRecursion, Spot, Expr, Name, Place, TypeExpr, TypedExpr, ActionHead, Table, Demand, Around, in_loop, scoped, NodePart, OnPart, reads, maybe_read, spawned_read, spawn_read, channel_read, monitor_read, row_read, other_read, block_read, on_read, if_read, while_read, turn_read, for_read, declare_on_read, assign_on_read, declare_read, declare_as_read, return_read}
use Rattle.epl_tree.specs.declared.statement.Stmt.{Stmt as Tree}
use Rattle.epl_tree.specs.declared.statement.StmtNode.TheOpen as stmt
use Rattle.type_table.specs.declared.scope.SeenKind.TheVariants as kind
use Rattle.stmt_check.specs.Bodies.{action_named}
use Rattle.stmt_check.specs.Statements.{Part, part_of, element_of, shape_of}
use Rattle.program_laws.proofs.Limits.Room.{Keeps, PartKeeps, keeps_bind, keeps_pure, keeps_given, keeps_looks, keeps_tells, keeps_by, keeps_name, keeps_local, keeps_scoped, keeps_each, keeps_optional, listen_keeps}
use Rattle.program_laws.proofs.Shapes.Inductions.{part_at, NodeLayer, OnLayer, PartLayer, parts_have, every_statement, on_at}

-- a statement without its place leaves room
abbrev pub NodeKeeps : NodePart → Type 0
NodeKeeps p = (around : Around) (spot : Spot) → Keeps (around.bodies + around.callbacks) (p.reads around spot)

-- a listener leaves room, where one may stand or may not
abbrev pub OnKeeps : OnPart → Type 0
OnKeeps p = (around : Around) (takes : Bool) → Keeps (around.bodies + around.callbacks) (p.reads around takes)

-- ---- statements without parts that are statements

module _ (n : ℕ) (table : Table) where
  maybe_keeps : (demand : Demand) (e : Option Expr) → Keeps n (maybe_read table demand e)
  maybe_keeps demand None = keeps_optional n None tt
  maybe_keeps demand (Some e) = keeps_optional n (Some (reads table demand e)) (keeps_looks n _)

  spawned_keeps : (spot : Spot) (action : Option ActionHead) (args : List Expr) (to : Option Expr) → Keeps n (spawned_read table spot action args to)
  spawned_keeps spot None args to = keeps_bind n (keeps_tells n _ _) (λ _. keeps_pure n _)
  spawned_keeps spot (Some action) args to = keeps_bind n (keeps_tells n _ _) (λ _. keeps_bind n (keeps_looks n _) (λ args. keeps_bind n (maybe_keeps _ to) (λ to. keeps_pure n _)))

  spawn_keeps : (spot : Spot) (name : List ℕ) (args : List Expr) (to : Option Expr) → Keeps n (spawn_read table spot name args to)
  spawn_keeps spot name args to = keeps_by n (λ s. spawned_keeps spot (action_named table s.scope.monitor name) args to)

  channel_keeps : (name : List ℕ) (e : Option Expr) → Keeps n (channel_read table name e)
  channel_keeps name None = keeps_pure n _
  channel_keeps name (Some e) = keeps_bind n (keeps_looks n _) (λ channel. keeps_pure n _)

  monitor_keeps : (spot : Spot) (name : List ℕ) (args : List Expr) → Keeps n (monitor_read table spot name args)
  monitor_keeps spot name args = keeps_bind n (keeps_tells n _ _) (λ _. channel_keeps name _)

  declare_keeps : (type : TypeExpr) (name : Name) → Keeps n (declare_read table type name)
  declare_keeps type name = keeps_bind n (keeps_given n _) (λ shape. keeps_bind n (keeps_name n name) (λ _. keeps_bind n (keeps_local n kind.Local name.text (Some shape)) (λ number. keeps_pure n _)))

  declare_as_keeps : (type : TypeExpr) (name : Name) (value : Expr) → Keeps n (declare_as_read table type name value)
  declare_as_keeps type name value = keeps_bind n (keeps_given n _) (λ shape. keeps_bind n (keeps_name n name) (λ _. keeps_bind n (keeps_looks n _) (λ value. keeps_bind n (keeps_local n kind.Local name.text (Some shape)) (λ number. keeps_pure n _))))

-- ---- statements with parts

abbrev size : Around → ℕ
size around = around.bodies + around.callbacks

rows_keep : (around : Around) (parts : List Part) → AllByRecursion PartKeeps parts → AllByRecursion (λ m. Keeps (size around) m) (map (λ p. p.reads around) parts)
rows_keep around [] so = tt
rows_keep around (p ∷ parts) so = (so.0 around, rows_keep around parts so.1)

row_keeps : (around : Around) (parts : List Part) → AllByRecursion PartKeeps parts → Keeps (size around) (row_read around parts)
row_keeps around parts so = keeps_each (size around) (map (λ p. p.reads around) parts) (rows_keep around parts so)

module _ (around : Around) where
  abbrev here : ℕ
  here = size around

  block_keeps : (parts : List Part) → AllByRecursion PartKeeps parts → Keeps here (block_read around parts)
  block_keeps parts so = keeps_bind here (keeps_scoped here (row_keeps around parts so)) (λ parts. keeps_pure here _)

  other_keeps : (other : Option Part) → IfSome other PartKeeps → Keeps here (other_read around other)
  other_keeps None so = keeps_optional here None tt
  other_keeps (Some p) so = keeps_optional here (Some (scoped (p.reads around))) (keeps_scoped here (so around))

  if_keeps : (test : Expr) (part : Part) (other : Option Part) → PartKeeps part → IfSome other PartKeeps → Keeps here (if_read around test part other)
  if_keeps test part other so others = keeps_bind here (keeps_looks here _) (λ test. keeps_bind here (keeps_scoped here (so around)) (λ part. keeps_bind here (other_keeps other others) (λ other. keeps_pure here _)))

  while_keeps : (test : Expr) (parts : List Part) → AllByRecursion PartKeeps parts → Keeps here (while_read around test parts)
  while_keeps test parts so = keeps_bind here (keeps_looks here _) (λ test. keeps_bind here (keeps_scoped here (row_keeps (in_loop around) parts so)) (λ parts. keeps_pure here _))

  turn_keeps : (name : Name) (items : TypedExpr) (parts : List Part) → AllByRecursion PartKeeps parts → Keeps here (turn_read around name items parts)
  turn_keeps name items parts so = keeps_bind here (keeps_local here kind.Loop name.text (element_of (shape_of items))) (λ number. keeps_bind here (row_keeps (in_loop around) parts so) (λ parts. keeps_pure here _))

  for_keeps : (name : Name) (items : Expr) (parts : List Part) → AllByRecursion PartKeeps parts → Keeps here (for_read around name items parts)
  for_keeps name items parts so = keeps_bind here (keeps_name here name) (λ _. keeps_bind here (keeps_looks here _) (λ items. keeps_scoped here (turn_keeps name items parts so)))

  on_keeps : (on : OnPart) → OnKeeps on → Keeps here (on_read around on)
  on_keeps on so = keeps_bind here (so around _) (λ site. keeps_pure here _)

  declare_on_keeps : (type : TypeExpr) (name : Name) (on : OnPart) → OnKeeps on → Keeps here (declare_on_read around type name on)
  declare_on_keeps type name on so = keeps_bind here (keeps_given here _) (λ shape. keeps_bind here (keeps_name here name) (λ _. keeps_bind here (so around _) (λ site. keeps_bind here (keeps_local here kind.Local name.text (Some shape)) (λ number. keeps_pure here _))))

  assign_on_keeps : (place : Place) (on : OnPart) → OnKeeps on → Keeps here (assign_on_read around place on)
  assign_on_keeps place on so = keeps_bind here (keeps_looks here _) (λ to. keeps_bind here (so around _) (λ site. keeps_pure here _))

  return_keeps : (spot : Spot) (value : Option Expr) → Keeps here (return_read around spot value)
  return_keeps spot value = keeps_bind here (keeps_tells here _ _) (λ _. keeps_bind here (maybe_keeps here around.table _ value) (λ value. keeps_pure here _))

-- ---- the induction

node_layer : NodeLayer NodeKeeps OnKeeps PartKeeps
node_layer (stmt.Block parts) = λ around spot. block_keeps around (map part_at (map (λ e. e.0) parts)) (parts_have NodeKeeps OnKeeps PartKeeps parts)
node_layer (stmt.On on) = λ around spot. on_keeps around (on_at on.0) on.1
node_layer (stmt.Declare type name) = λ around spot. declare_keeps (size around) around.table type name
node_layer (stmt.DeclareAs type name value) = λ around spot. declare_as_keeps (size around) around.table type name value
node_layer (stmt.DeclareOn type name on) = λ around spot. declare_on_keeps around type name (on_at on.0) on.1
node_layer (stmt.Assign place value) = λ around spot. keeps_bind (size around) (keeps_looks (size around) _) (λ to. keeps_bind (size around) (keeps_looks (size around) _) (λ value. keeps_pure (size around) _))
node_layer (stmt.AssignOn place on) = λ around spot. assign_on_keeps around place (on_at on.0) on.1
node_layer (stmt.If test part None) = λ around spot. if_keeps around test (part_at part.0) None part.1 tt
node_layer (stmt.If test part (Some other)) = λ around spot. if_keeps around test (part_at part.0) (Some (part_at other.0)) part.1 other.1
node_layer (stmt.While test parts) = λ around spot. while_keeps around test (map part_at (map (λ e. e.0) parts)) (parts_have NodeKeeps OnKeeps PartKeeps parts)
node_layer (stmt.For name items parts) = λ around spot. for_keeps around name items (map part_at (map (λ e. e.0) parts)) (parts_have NodeKeeps OnKeeps PartKeeps parts)
node_layer stmt.Break = λ around spot. keeps_bind (size around) (keeps_tells (size around) _ _) (λ _. keeps_pure (size around) _)
node_layer stmt.Continue = λ around spot. keeps_bind (size around) (keeps_tells (size around) _ _) (λ _. keeps_pure (size around) _)
node_layer (stmt.Return value) = λ around spot. return_keeps around spot value
node_layer stmt.Die = λ around spot. keeps_pure (size around) _
node_layer (stmt.Print text) = λ around spot. keeps_bind (size around) (keeps_looks (size around) _) (λ text. keeps_pure (size around) _)
node_layer (stmt.Log text level) = λ around spot. keeps_bind (size around) (keeps_looks (size around) _) (λ text. keeps_pure (size around) _)
node_layer (stmt.Route value) = λ around spot. keeps_bind (size around) (keeps_looks (size around) _) (λ value. keeps_pure (size around) _)
node_layer (stmt.Send value to) = λ around spot. keeps_bind (size around) (keeps_looks (size around) _) (λ value. keeps_bind (size around) (keeps_looks (size around) _) (λ to. keeps_pure (size around) _))
node_layer (stmt.Spawn name args to) = λ around spot. spawn_keeps (size around) around.table spot name args to
node_layer (stmt.Monitor name args) = λ around spot. monitor_keeps (size around) around.table spot name args
node_layer (stmt.Call e) = λ around spot. keeps_bind (size around) (keeps_looks (size around) _) (λ e. keeps_pure (size around) _)

on_layer : OnLayer NodeKeeps OnKeeps PartKeeps
on_layer y around takes = listen_keeps around takes y.spot y.event (part_at y.callback.0) y.callback.1

part_layer : PartLayer NodeKeeps OnKeeps PartKeeps
part_layer y around = y.node.1 around y.spot

-- a statement without a fault leaves room
statement_keeps : (t : Tree) → PartKeeps (part_of t)
statement_keeps = every_statement NodeKeeps OnKeeps PartKeeps node_layer on_layer part_layer

body_parts : (trees : List Tree) → AllByRecursion PartKeeps (map part_of trees)
body_parts [] = tt
body_parts (t ∷ trees) = (statement_keeps t, body_parts trees)

-- the statements of a body in which no fault is found leave room
pub body_keeps : (around : Around) (trees : List Tree) → Keeps (around.bodies + around.callbacks) (row_read around (map part_of trees))
body_keeps around trees = row_keeps around (map part_of trees) (body_parts trees)
