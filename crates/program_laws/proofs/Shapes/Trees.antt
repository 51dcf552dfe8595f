-- Every statement, by induction over its tree.
use Rattle.program_laws.proofs.Common.{map, Some, None}
use Rattle.epl_tree.specs.declared.statement.Stmt.{Stmt as Tree}
use Rattle.epl_tree.specs.declared.statement.StmtNode.TheOpen as stmt
use Rattle.stmt_check.specs.Statements.{part_of}
use Rattle.program_laws.proofs.Shapes.Compounds.{block_claim, on_claim, declare_on_claim, assign_on_claim, if_claim, while_claim, for_claim, listen_claim}
use Rattle.program_laws.proofs.Shapes.Forms.{print_claim, log_claim, route_claim, send_claim, call_claim, die_claim, break_claim, continue_claim, declare_claim, declare_as_claim, assign_claim, return_claim}
use Rattle.program_laws.proofs.Shapes.Inductions.{part_at, NodeLayer, OnLayer, PartLayer, parts_have, every_statement, on_at}
use Rattle.program_laws.proofs.Shapes.Parts.{PartSo, NodeSo, OnSo}
use Rattle.program_laws.proofs.Shapes.Rules.{Rules}
use Rattle.program_laws.proofs.Shapes.Spawns.{spawn_claim, monitor_claim}

module _ (rules : Rules) where
  node_layer : NodeLayer NodeSo OnSo PartSo
  node_layer (stmt.Block parts) = λ f around fitting within spot k s. block_claim f around fitting (map part_at (map (λ e. e.0) parts)) (parts_have NodeSo OnSo PartSo parts) within s
  node_layer (stmt.On on) = λ f around fitting within spot k s. on_claim f around fitting (on_at on.0) on.1 within s
  node_layer (stmt.Declare type name) = λ f around fitting within spot k s. declare_claim rules f around fitting type name s
  node_layer (stmt.DeclareAs type name value) = λ f around fitting within spot k s. declare_as_claim rules f around fitting type name value within s
  node_layer (stmt.DeclareOn type name on) = λ f around fitting within spot k s. declare_on_claim f around fitting type name (on_at on.0) rules on.1 within s
  node_layer (stmt.Assign place value) = λ f around fitting within spot k s. assign_claim rules f around fitting place value within s
  node_layer (stmt.AssignOn place on) = λ f around fitting within spot k s. assign_on_claim rules f around fitting place (on_at on.0) on.1 within s
  node_layer (stmt.If test part None) = λ f around fitting within spot k s. if_claim rules f around fitting test (part_at part.0) None part.1 tt within s
  node_layer (stmt.If test part (Some other)) = λ f around fitting within spot k s. if_claim rules f around fitting test (part_at part.0) (Some (part_at other.0)) part.1 other.1 within s
  node_layer (stmt.While test parts) = λ f around fitting within spot k s. while_claim rules f around fitting test (map part_at (map (λ e. e.0) parts)) (parts_have NodeSo OnSo PartSo parts) within s
  node_layer (stmt.For name items parts) = λ f around fitting within spot k s. for_claim rules f around fitting name items (map part_at (map (λ e. e.0) parts)) (parts_have NodeSo OnSo PartSo parts) within s
  node_layer stmt.Break = λ f around fitting within spot k s. break_claim rules f around fitting spot s
  node_layer stmt.Continue = λ f around fitting within spot k s. continue_claim rules f around fitting spot s
  node_layer (stmt.Return value) = λ f around fitting within spot k s. return_claim rules f around fitting spot value within s
  node_layer stmt.Die = λ f around fitting within spot k s. die_claim rules f around fitting s
  node_layer (stmt.Print text) = λ f around fitting within spot k s. print_claim rules f around fitting text within s
  node_layer (stmt.Log text level) = λ f around fitting within spot k s. log_claim rules f around fitting text level within s
  node_layer (stmt.Route value) = λ f around fitting within spot k s. route_claim rules f around fitting value within s
  node_layer (stmt.Send value to) = λ f around fitting within spot k s. send_claim rules f around fitting value to within s
  node_layer (stmt.Spawn name args to) = λ f around fitting within spot k s. spawn_claim rules f around fitting spot name args to within s
  node_layer (stmt.Monitor name args) = λ f around fitting within spot k s. monitor_claim rules f around fitting spot name args within s
  node_layer (stmt.Call e) = λ f around fitting within spot k s. call_claim rules f around fitting e within s

  on_layer : OnLayer NodeSo OnSo PartSo
  on_layer y f around fitting within takes k s = listen_claim rules f around fitting takes y.spot y.event (part_at y.callback.0) y.callback.1 within s

  part_layer : PartLayer NodeSo OnSo PartSo
  part_layer y f around fitting within k s = y.node.1 f around fitting within y.spot k s

  -- a statement without a fault holds in each finished body that fits
  pub statement_so : (t : Tree) → PartSo (part_of t)
  statement_so = every_statement NodeSo OnSo PartSo node_layer on_layer part_layer
