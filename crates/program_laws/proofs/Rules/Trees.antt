-- Every statement keeps the rules, by induction over its tree.
use Rattle.program_laws.proofs.Common.{map, Some, None}
use Rattle.epl_tree.specs.declared.statement.Stmt.{Stmt as Tree}
use Rattle.epl_tree.specs.declared.statement.StmtNode.TheOpen as stmt
use Rattle.stmt_check.specs.Statements.{part_of}
use Rattle.program_laws.proofs.Lawful.Rules.{LawRules}
use Rattle.program_laws.proofs.Rules.Compounds.{block_law, if_law, while_law}
use Rattle.program_laws.proofs.Rules.Forms.{print_law, log_law, route_law, send_law, call_law, die_law, break_law, continue_law, assign_law, return_law}
use Rattle.program_laws.proofs.Rules.Listeners.{on_law, declare_on_law, assign_on_law, listen_law}
use Rattle.program_laws.proofs.Rules.Locals.{declare_law, declare_as_law}
use Rattle.program_laws.proofs.Rules.Loops.{for_law}
use Rattle.program_laws.proofs.Rules.Parts.{PartKeeps, NodeKeeps, OnKeeps}
use Rattle.program_laws.proofs.Rules.Spawns.{spawn_law, monitor_law}
use Rattle.program_laws.proofs.Shapes.Inductions.{part_at, NodeLayer, OnLayer, PartLayer, parts_have, every_statement, on_at}
use Rattle.program_laws.proofs.Shapes.Parts.{PartSo}
use Rattle.program_laws.proofs.Shapes.Rules.{Rules}
use Rattle.program_laws.proofs.Shapes.Trees.{statement_so}

module _ (rules : LawRules) (shapes : Rules) where
  so_at : (t : Tree) → PartSo (part_at t)
  unfolding part_of
  so_at t = statement_so shapes t

  node_layer : NodeLayer NodeKeeps OnKeeps PartKeeps
  node_layer (stmt.Block parts) = λ f around fitting within law spot k v s. block_law rules f around fitting law (map part_at (map (λ e. e.0) parts)) (parts_have NodeKeeps OnKeeps PartKeeps parts) within v s
  node_layer (stmt.On on) = λ f around fitting within law spot k v s. on_law rules shapes f around fitting law (on_at on.0) on.1 within v s
  node_layer (stmt.Declare type name) = λ f around fitting within law spot k v s. declare_law rules f around fitting law type name v s
  node_layer (stmt.DeclareAs type name value) = λ f around fitting within law spot k v s. declare_as_law rules f around fitting law type name value within v s
  node_layer (stmt.DeclareOn type name on) = λ f around fitting within law spot k v s. declare_on_law rules shapes f around fitting law type name (on_at on.0) on.1 within v s
  node_layer (stmt.Assign place value) = λ f around fitting within law spot k v s. assign_law rules f around fitting law place value within v s
  node_layer (stmt.AssignOn place on) = λ f around fitting within law spot k v s. assign_on_law rules shapes f around fitting law place (on_at on.0) on.1 within v s
  node_layer (stmt.If test part None) = λ f around fitting within law spot k v s. if_law rules f around fitting law test (part_at part.0) None part.1 tt within v s
  node_layer (stmt.If test part (Some other)) = λ f around fitting within law spot k v s. if_law rules f around fitting law test (part_at part.0) (Some (part_at other.0)) part.1 other.1 within v s
  node_layer (stmt.While test parts) = λ f around fitting within law spot k v s. while_law rules f around fitting law test (map part_at (map (λ e. e.0) parts)) (parts_have NodeKeeps OnKeeps PartKeeps parts) within v s
  node_layer (stmt.For name items parts) = λ f around fitting within law spot k v s. for_law rules shapes f around fitting law name items (map part_at (map (λ e. e.0) parts)) (parts_have NodeKeeps OnKeeps PartKeeps parts) within v s
  node_layer stmt.Break = λ f around fitting within law spot k v s. break_law rules f around fitting law spot v s
  node_layer stmt.Continue = λ f around fitting within law spot k v s. continue_law rules f around fitting law spot v s
  node_layer (stmt.Return value) = λ f around fitting within law spot k v s. return_law rules f around fitting law spot value within v s
  node_layer stmt.Die = λ f around fitting within law spot k v s. die_law rules f around fitting law v s
  node_layer (stmt.Print text) = λ f around fitting within law spot k v s. print_law rules f around fitting law text within v s
  node_layer (stmt.Log text level) = λ f around fitting within law spot k v s. log_law rules f around fitting law text level within v s
  node_layer (stmt.Route value) = λ f around fitting within law spot k v s. route_law rules f around fitting law value within v s
  node_layer (stmt.Send value to) = λ f around fitting within law spot k v s. send_law rules f around fitting law value to within v s
  node_layer (stmt.Spawn name args to) = λ f around fitting within law spot k v s. spawn_law rules f around fitting law spot name args to within v s
  node_layer (stmt.Monitor name args) = λ f around fitting within law spot k v s. monitor_law rules f around fitting law spot name args within v s
  node_layer (stmt.Call e) = λ f around fitting within law spot k v s. call_law rules f around fitting law e within v s

  on_layer : OnLayer NodeKeeps OnKeeps PartKeeps
  on_layer y f around fitting within law takes k v s = listen_law rules shapes f around fitting law takes y.spot y.event (part_at y.callback.0) (so_at y.callback.0) y.callback.1 within v s

  part_layer : PartLayer NodeKeeps OnKeeps PartKeeps
  part_layer y f around fitting within law k v s = y.node.1 f around fitting within law y.spot k v s

  -- a statement without a fault keeps the rules in each finished body that fits
  pub statement_keeps : (t : Tree) → PartKeeps (part_of t)
  statement_keeps = every_statement NodeKeeps OnKeeps PartKeeps node_layer on_layer part_layer
