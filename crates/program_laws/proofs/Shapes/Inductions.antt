-- Induction over statements: what each form has where its parts have it, every statement has.
use Rattle.std.proofs.Common.{◌∷◌}
use Rattle.program_laws.proofs.Common.{map, List, [], sym, subst, AllByRecursion, Listening, StmtNode, StmtNode-F, Stmt-F, roll-StmtNode, roll-Stmt, fold-StmtNode, fold-Listening, fold-Stmt, fold-roll-StmtNode, fold-roll-Stmt, ind-Stmt, map-StmtNode, map-Stmt, NodePart, OnPart, node_part, on_part, stmt_part}
use Rattle.epl_tree.specs.declared.statement.Stmt.{Stmt as Tree}
use Rattle.epl_tree.specs.declared.statement.StmtNode.TheOpen.{Listening-F}
use Rattle.epl_tree.specs.declared.statement.StmtNode.TheViews.{roll-Listening}
use Rattle.epl_tree.specs.declared.statement.StmtNode.TheFolds.{fold-roll-Listening, map-Listening}
use Rattle.stmt_check.specs.Statements.{Part, part_of}

abbrev pub node_at : StmtNode → NodePart
node_at = fold-StmtNode NodePart OnPart Part node_part on_part stmt_part

abbrev pub on_at : Listening → OnPart
on_at = fold-Listening NodePart OnPart Part node_part on_part stmt_part

abbrev pub part_at : Tree → Part
part_at = fold-Stmt NodePart OnPart Part node_part on_part stmt_part

module _ (ForNode : NodePart → Type 0) (ForOn : OnPart → Type 0) (ForPart : Part → Type 0) where
  -- parts of which it is known
  abbrev pub Nodes : Type 0
  Nodes = (n : StmtNode) × ForNode (node_at n)

  abbrev pub Ons : Type 0
  Ons = (l : Listening) × ForOn (on_at l)

  abbrev pub Parts : Type 0
  Parts = (t : Tree) × ForPart (part_at t)

  -- each form has it where its parts have it
  abbrev pub NodeLayer : Type 0
  NodeLayer = (y : StmtNode-F Nodes Ons Parts) → ForNode (node_part (map-StmtNode StmtNode Listening Tree NodePart OnPart Part node_at on_at part_at (map-StmtNode Nodes Ons Parts StmtNode Listening Tree (λ e. e.0) (λ e. e.0) (λ e. e.0) y)))

  abbrev pub OnLayer : Type 0
  OnLayer = (y : Listening-F Nodes Ons Parts) → ForOn (on_part (map-Listening StmtNode Listening Tree NodePart OnPart Part node_at on_at part_at (map-Listening Nodes Ons Parts StmtNode Listening Tree (λ e. e.0) (λ e. e.0) (λ e. e.0) y)))

  abbrev pub PartLayer : Type 0
  PartLayer = (y : Stmt-F Nodes Ons Parts) → ForPart (stmt_part (map-Stmt StmtNode Listening Tree NodePart OnPart Part node_at on_at part_at (map-Stmt Nodes Ons Parts StmtNode Listening Tree (λ e. e.0) (λ e. e.0) (λ e. e.0) y)))

  -- the parts of a form have it
  pub parts_have : (parts : List Parts) → AllByRecursion ForPart (map part_at (map (λ e. e.0) parts))
  parts_have [] = tt
  parts_have (e ∷ parts) = (e.1, parts_have parts)

  -- so every statement has it
  pub every_statement : NodeLayer → OnLayer → PartLayer → (t : Tree) → ForPart (part_of t)
  unfolding part_of
  every_statement node on part = ind-Stmt (λ n. ForNode (node_at n)) (λ l. ForOn (on_at l)) (λ t. ForPart (part_at t))
      (λ x y is. subst (λ d. ForNode (node_at (roll-StmtNode d))) is (subst ForNode (sym (fold-roll-StmtNode NodePart OnPart Part node_part on_part stmt_part _)) (node y)))
      (λ x y is. subst (λ d. ForOn (on_at (roll-Listening d))) is (subst ForOn (sym (fold-roll-Listening NodePart OnPart Part node_part on_part stmt_part _)) (on y)))
      (λ x y is. subst (λ d. ForPart (part_at (roll-Stmt d))) is (subst ForPart (sym (fold-roll-Stmt NodePart OnPart Part node_part on_part stmt_part _)) (part y)))
