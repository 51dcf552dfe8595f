-- A row of statements ends with a `return` where the row that it is made of does.
use Rattle.std.proofs.Common.{◌≡◌, ◌∷◌, ◌&&◌}
use Rattle.program_laws.proofs.Common.{ℕ, map, List, [], Some, None, Bool, true, false, Option, refl, ap, ap₂, sym, subst, ◌∙◌, slice_get, Spot, Expr, Listening, StmtNode, StmtNode-F, Stmt-F, roll-StmtNode, roll-Stmt, fold-StmtNode, fold-Listening, fold-Stmt, fold-roll-StmtNode, fold-roll-Stmt, ind-Stmt, map-StmtNode, map-Stmt, TypedExpr, Stmt, ActionHead, Table, State, Around, NodePart, OnPart, node_part, on_part, stmt_part, row_read, spawned_read, channel_read, is_subscribe}
use Rattle.epl_tree.specs.declared.statement.Stmt.{Stmt as Tree}
use Rattle.epl_tree.specs.declared.statement.StmtNode.TheOpen as stmt
use Rattle.typed_program.specs.declared.statement.Stmt.{fold-Stmt as fold_made}
use Rattle.typed_program.specs.declared.statement.Stmt.TheVariants as made
use Rattle.typed_program.specs.declared.statement.Stmt.TheOpen as layer
use Rattle.typed_program.specs.declared.statement.Stmt.TheOpen.{Stmt-F as Layer}
use Rattle.typed_program.specs.declared.statement.Stmt.TheViews.{roll-Stmt as roll_made}
use Rattle.typed_program.specs.declared.statement.Stmt.TheFolds.{fold-roll-Stmt as fold_roll_made, map-Stmt as map_made}
use Rattle.typed_program.specs.Courses.{Ending, last_ends, ending_step, ends_with_return}
use Rattle.stmt_check.specs.Bodies.{action_named}
use Rattle.stmt_check.specs.Endings.{Ending as TreeEnding, last_ends as tree_last, ending_node, ending_step as tree_step, ending_of, ends_with_return as tree_ends}
use Rattle.stmt_check.specs.Statements.{Part, part_of}
use Rattle.stmt_check.specs.Steps.{◌>>=◌, pure, given, looks, reads_by, tells, changes, within, before_all, each, optional}

-- how a statement ends that is made
abbrev ending : Stmt → Ending
ending = fold_made Ending ending_step

abbrev as_made : TreeEnding → Ending
as_made e = record { last = e.last; part = e.part }

made_ends : (d : Layer Stmt) (x : Stmt) → roll_made d ≡ x → ending x ≡ ending_step (map_made Stmt Ending ending d)
made_ends d x is = ap ending (sym is) ∙ fold_roll_made Ending ending_step d

last_same : (es : List TreeEnding) → last_ends (map as_made es) ≡ tree_last es
last_same [] = refl
last_same (e ∷ []) = refl
last_same (e ∷ d ∷ es) = last_same (d ∷ es)

-- ---- statements in order

abbrev node_at : StmtNode → NodePart
node_at = fold-StmtNode NodePart OnPart Part node_part on_part stmt_part

abbrev on_at : Listening → OnPart
on_at = fold-Listening NodePart OnPart Part node_part on_part stmt_part

abbrev part_at : Tree → Part
part_at = fold-Stmt NodePart OnPart Part node_part on_part stmt_part

abbrev node_ending : StmtNode → TreeEnding
node_ending = fold-StmtNode TreeEnding (Unit {0}) TreeEnding ending_node (λ on. tt) tree_step

abbrev on_ending : Listening → Unit {0}
on_ending = fold-Listening TreeEnding (Unit {0}) TreeEnding ending_node (λ on. tt) tree_step

abbrev NodeEnds : NodePart → TreeEnding → Type 0
NodeEnds p e = (around : Around) (spot : Spot) (s : State) → ending (p.reads around spot s).part.part ≡ as_made e

abbrev PartEnds : Part → TreeEnding → Type 0
PartEnds p e = (around : Around) (s : State) → ending (p.reads around s).part.part ≡ as_made e

abbrev NodeFine : StmtNode → Type 0
NodeFine n = NodeEnds (node_at n) (node_ending n)

abbrev OnFine : Listening → Type 0
OnFine l = Unit {0}

abbrev PartFine : Tree → Type 0
PartFine t = PartEnds (part_at t) (ending_of t)

abbrev Nodes : Type 0
Nodes = (n : StmtNode) × NodeFine n

abbrev Ons : Type 0
Ons = (l : Listening) × OnFine l

abbrev Parts : Type 0
Parts = (t : Tree) × PartFine t

rows_end : (parts : List Parts) (around : Around) (s : State) → map ending (row_read around (map part_at (map (λ e. e.0) parts)) s).part.part ≡ map as_made (map ending_of (map (λ e. e.0) parts))
unfolding each before_all pure ◌>>=◌
rows_end [] around s = refl
rows_end (e ∷ parts) around s = ap₂ (λ x xs. x ∷ xs) (e.1 around s) (rows_end parts around ((part_at e.0).reads around s).part.state)

block_ends : (parts : List Parts) (around : Around) (s : State) → last_ends (map ending (row_read around (map part_at (map (λ e. e.0) parts)) s).part.part) ≡ tree_last (map ending_of (map (λ e. e.0) parts))
block_ends parts around s = ap last_ends (rows_end parts around s) ∙ last_same (map ending_of (map (λ e. e.0) parts))

abbrev quiet : Ending
quiet = record { last = false; part = false }

spawned_ends : (table : Table) (spot : Spot) (o : Option ActionHead) (args : List Expr) (to : Option Expr) (s : State) → ending (spawned_read table spot o args to s).part.part ≡ quiet
unfolding ◌>>=◌ pure tells looks
spawned_ends table spot None args to s = made_ends layer.Die _ made.rolls-Die
spawned_ends table spot (Some head) args to s = made_ends (layer.Spawn head.number _ _) _ (made.rolls-Spawn head.number _ _)

control_ends : (b : Bool) (e : TypedExpr) → ending (elim b [ true ↦ made.Subscribe e | false ↦ made.Unsubscribe e ]) ≡ quiet
control_ends true e = made_ends (layer.Subscribe e) _ (made.rolls-Subscribe e)
control_ends false e = made_ends (layer.Unsubscribe e) _ (made.rolls-Unsubscribe e)

channel_ends : (table : Table) (name : List ℕ) (e : Option Expr) (s : State) → ending (channel_read table name e s).part.part ≡ quiet
unfolding ◌>>=◌ pure looks
channel_ends table name None s = made_ends layer.Die _ made.rolls-Die
channel_ends table name (Some e) s = control_ends (is_subscribe name) _

both : (b c : Ending) (d e : TreeEnding) → b ≡ as_made d → c ≡ as_made e → (b.part && c.part) ≡ (d.part && e.part)
both b c d e h k = ap₂ (λ (x y : Ending). x.part && y.part) h k

node_layer : (y : StmtNode-F Nodes Ons Parts) → NodeEnds (node_part (map-StmtNode StmtNode Listening Tree NodePart OnPart Part node_at on_at part_at (map-StmtNode Nodes Ons Parts StmtNode Listening Tree (λ e. e.0) (λ e. e.0) (λ e. e.0) y))) (ending_node (map-StmtNode StmtNode Listening Tree TreeEnding (Unit {0}) TreeEnding node_ending on_ending ending_of (map-StmtNode Nodes Ons Parts StmtNode Listening Tree (λ e. e.0) (λ e. e.0) (λ e. e.0) y)))
unfolding ◌>>=◌ pure given looks reads_by tells changes within optional
node_layer (stmt.Block parts) = λ around spot s. made_ends (layer.Block _) _ (made.rolls-Block _) ∙ ap (λ b. record { last = false; part = b }) (block_ends parts around s)
node_layer (stmt.On on) = λ around spot s. made_ends (layer.On _) _ (made.rolls-On _)
node_layer (stmt.Declare type name) = λ around spot s. made_ends (layer.Declare _ _) _ (made.rolls-Declare _ _)
node_layer (stmt.DeclareAs type name value) = λ around spot s. made_ends (layer.DeclareAs _ _) _ (made.rolls-DeclareAs _ _)
node_layer (stmt.DeclareOn type name on) = λ around spot s. made_ends (layer.DeclareOn _ _) _ (made.rolls-DeclareOn _ _)
node_layer (stmt.Assign place value) = λ around spot s. made_ends (layer.Assign _ _) _ (made.rolls-Assign _ _)
node_layer (stmt.AssignOn place on) = λ around spot s. made_ends (layer.AssignOn _ _) _ (made.rolls-AssignOn _ _)
node_layer (stmt.If test part None) = λ around spot s. made_ends (layer.If _ _ None) _ (made.rolls-If _ _ None)
node_layer (stmt.If test part (Some other)) = λ around spot s. made_ends (layer.If _ _ (Some _)) _ (made.rolls-If _ _ (Some _)) ∙ ap (λ b. record { last = b; part = b }) (both _ _ (ending_of part.0) (ending_of other.0) (part.1 around _) (other.1 around _))
node_layer (stmt.While test parts) = λ around spot s. made_ends (layer.While _ _) _ (made.rolls-While _ _)
node_layer (stmt.For name items parts) = λ around spot s. made_ends (layer.For _ _ _) _ (made.rolls-For _ _ _)
node_layer stmt.Break = λ around spot s. made_ends layer.Break _ made.rolls-Break
node_layer stmt.Continue = λ around spot s. made_ends layer.Continue _ made.rolls-Continue
node_layer (stmt.Return value) = λ around spot s. made_ends (layer.Return _) _ (made.rolls-Return _)
node_layer stmt.Die = λ around spot s. made_ends layer.Die _ made.rolls-Die
node_layer (stmt.Print text) = λ around spot s. made_ends (layer.Print _) _ (made.rolls-Print _)
node_layer (stmt.Log text level) = λ around spot s. made_ends (layer.Log _ level) _ (made.rolls-Log _ level)
node_layer (stmt.Route value) = λ around spot s. made_ends (layer.Route _) _ (made.rolls-Route _)
node_layer (stmt.Send value to) = λ around spot s. made_ends (layer.Send _ _) _ (made.rolls-Send _ _)
node_layer (stmt.Spawn name args to) = λ around spot s. spawned_ends around.table spot (action_named around.table s.scope.monitor name) args to s
node_layer (stmt.Monitor name args) = λ around spot s. channel_ends around.table name (slice_get args 0) s
node_layer (stmt.Call e) = λ around spot s. made_ends (layer.Call _) _ (made.rolls-Call _)

part_layer : (y : Stmt-F Nodes Ons Parts) → PartEnds (stmt_part (map-Stmt StmtNode Listening Tree NodePart OnPart Part node_at on_at part_at (map-Stmt Nodes Ons Parts StmtNode Listening Tree (λ e. e.0) (λ e. e.0) (λ e. e.0) y))) (tree_step (map-Stmt StmtNode Listening Tree TreeEnding (Unit {0}) TreeEnding node_ending on_ending ending_of (map-Stmt Nodes Ons Parts StmtNode Listening Tree (λ e. e.0) (λ e. e.0) (λ e. e.0) y)))
part_layer y around s = y.node.1 around y.spot s

abbrev node_trees : StmtNode-F Nodes Ons Parts → StmtNode-F StmtNode Listening Tree
node_trees y = map-StmtNode Nodes Ons Parts StmtNode Listening Tree (λ e. e.0) (λ e. e.0) (λ e. e.0) y

abbrev stmt_trees : Stmt-F Nodes Ons Parts → Stmt-F StmtNode Listening Tree
stmt_trees y = map-Stmt Nodes Ons Parts StmtNode Listening Tree (λ e. e.0) (λ e. e.0) (λ e. e.0) y

node_case : (x : StmtNode-F StmtNode Listening Tree) (y : StmtNode-F Nodes Ons Parts) → node_trees y ≡ x → NodeFine (roll-StmtNode x)
node_case x y is = subst (λ (d : StmtNode-F StmtNode Listening Tree). NodeFine (roll-StmtNode d)) is
    (subst (λ (p : NodePart). NodeEnds p (node_ending (roll-StmtNode (node_trees y)))) (sym (fold-roll-StmtNode NodePart OnPart Part node_part on_part stmt_part (node_trees y)))
    (subst (λ (e : TreeEnding). NodeEnds (node_part (map-StmtNode StmtNode Listening Tree NodePart OnPart Part node_at on_at part_at (node_trees y))) e) (sym (fold-roll-StmtNode TreeEnding (Unit {0}) TreeEnding ending_node (λ on. tt) tree_step (node_trees y))) (node_layer y)))

part_case : (x : Stmt-F StmtNode Listening Tree) (y : Stmt-F Nodes Ons Parts) → stmt_trees y ≡ x → PartFine (roll-Stmt x)
part_case x y is = subst (λ (d : Stmt-F StmtNode Listening Tree). PartFine (roll-Stmt d)) is
    (subst (λ (p : Part). PartEnds p (ending_of (roll-Stmt (stmt_trees y)))) (sym (fold-roll-Stmt NodePart OnPart Part node_part on_part stmt_part (stmt_trees y)))
    (subst (λ (e : TreeEnding). PartEnds (stmt_part (map-Stmt StmtNode Listening Tree NodePart OnPart Part node_at on_at part_at (stmt_trees y))) e) (sym (fold-roll-Stmt TreeEnding (Unit {0}) TreeEnding ending_node (λ on. tt) tree_step (stmt_trees y))) (part_layer y)))

every_part : (t : Tree) → PartFine t
every_part = ind-Stmt NodeFine OnFine PartFine node_case (λ x y is. tt) part_case

part_ends : (t : Tree) → PartEnds (part_of t) (ending_of t)
unfolding part_of
part_ends t = every_part t

body_rows : (body : List Tree) (around : Around) (s : State) → map ending (row_read around (map part_of body) s).part.part ≡ map as_made (map ending_of body)
unfolding each before_all pure ◌>>=◌
body_rows [] around s = refl
body_rows (t ∷ body) around s = ap₂ (λ x xs. x ∷ xs) (part_ends t around s) (body_rows body around ((part_of t).reads around s).part.state)

-- a body that is made ends as the one that it is made of
pub body_ends : (body : List Tree) (around : Around) (s : State) → ends_with_return (row_read around (map part_of body) s).part.part ≡ tree_ends body
body_ends body around s = ap last_ends (body_rows body around s) ∙ last_same (map ending_of body)
