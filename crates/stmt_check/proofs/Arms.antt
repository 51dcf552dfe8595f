-- How each form of statement is read, as an equation, and that what a statement names is what its parts name.
use Rattle.std.proofs.Common.{◌≡◌, ℕ, Bool, List, map, Option, Some, None, refl, sym, ap, ◌∙◌}
use Rattle.std.specs.Prelude.{option_map}
use Rattle.epl_tree.specs.declared.expression.Expr.{Expr}
use Rattle.epl_tree.specs.declared.name.Name.{Name}
use Rattle.epl_tree.specs.declared.statement.Level.{Level}
use Rattle.epl_tree.specs.declared.statement.Place.{Place}
use Rattle.epl_tree.specs.declared.statement.Stmt.{Stmt, fold_out-Stmt}
use Rattle.epl_tree.specs.declared.statement.StmtNode.{StmtNode, StmtNode-F, map-StmtNode, roll-StmtNode, fold-StmtNode, fold-roll-StmtNode}
use Rattle.epl_tree.specs.declared.statement.StmtNode.TheVariants as s
use Rattle.epl_tree.specs.declared.statement.Listening.{Listening, fold_out-Listening, out-Listening}
use Rattle.epl_tree.specs.declared.types.TypeExpr.{TypeExpr}
use Rattle.typed_program.specs.declared.statement.Stmt.TheVariants as made
use Rattle.stmt_check.specs.Bodies.{Around}
use Rattle.stmt_check.specs.Statements.{Part, NodePart, OnPart, part_of, on_part_of, node_part, on_part, stmt_part, block_read, on_read, declare_read, declare_as_read, declare_on_read, assign_read, assign_on_read, if_read, while_read, for_read, jump_read, return_read, print_read, log_read, route_read, send_read, spawn_read, monitor_read, call_read, listen_read}
use Rattle.stmt_check.specs.Steps.{pure}
use Rattle.stmt_check.proofs.Going.{Rows}

-- the node of a statement, by its parts
rolled : (t : Stmt) (d : StmtNode-F StmtNode Listening Stmt) → roll-StmtNode d ≡ t.node → part_of t ≡ stmt_part (record { spot = t.spot; node = node_part (map-StmtNode StmtNode Listening Stmt NodePart OnPart Part (fold-StmtNode NodePart OnPart Part node_part on_part stmt_part) on_part_of part_of d) })
unfolding part_of on_part_of
rolled t d is = fold_out-Stmt NodePart OnPart Part node_part on_part stmt_part t ∙ ap (λ n. stmt_part (record { spot = t.spot; node = n })) (ap (fold-StmtNode NodePart OnPart Part node_part on_part stmt_part) (sym is) ∙ fold-roll-StmtNode NodePart OnPart Part node_part on_part stmt_part d)

read_as : (around : Around) (t : Stmt) (d : StmtNode-F StmtNode Listening Stmt) {n : StmtNode} → roll-StmtNode d ≡ n → t.node ≡ n → (part_of t).reads around ≡ (node_part (map-StmtNode StmtNode Listening Stmt NodePart OnPart Part (fold-StmtNode NodePart OnPart Part node_part on_part stmt_part) on_part_of part_of d)).reads around t.spot
read_as around t d is h = ap (λ p. p.reads around) (rolled t d (is ∙ sym h))

module _ (around : Around) (t : Stmt) where
  pub stmt-block : (xs : List Stmt) → t.node ≡ s.Block xs → (part_of t).reads around ≡ block_read around (map part_of xs)
  stmt-block xs = read_as around t _ (s.rolls-Block xs)

  pub stmt-on : (on : Listening) → t.node ≡ s.On on → (part_of t).reads around ≡ on_read around (on_part_of on)
  stmt-on on = read_as around t _ (s.rolls-On on)

  pub stmt-declare : (w : TypeExpr) (n : Name) → t.node ≡ s.Declare w n → (part_of t).reads around ≡ declare_read around.table w n
  stmt-declare w n = read_as around t _ (s.rolls-Declare w n)

  pub stmt-declare_as : (w : TypeExpr) (n : Name) (e : Expr) → t.node ≡ s.DeclareAs w n e → (part_of t).reads around ≡ declare_as_read around.table w n e
  stmt-declare_as w n e = read_as around t _ (s.rolls-DeclareAs w n e)

  pub stmt-declare_on : (w : TypeExpr) (n : Name) (on : Listening) → t.node ≡ s.DeclareOn w n on → (part_of t).reads around ≡ declare_on_read around w n (on_part_of on)
  stmt-declare_on w n on = read_as around t _ (s.rolls-DeclareOn w n on)

  pub stmt-assign : (p : Place) (e : Expr) → t.node ≡ s.Assign p e → (part_of t).reads around ≡ assign_read around.table p e
  stmt-assign p e = read_as around t _ (s.rolls-Assign p e)

  pub stmt-assign_on : (p : Place) (on : Listening) → t.node ≡ s.AssignOn p on → (part_of t).reads around ≡ assign_on_read around p (on_part_of on)
  stmt-assign_on p on = read_as around t _ (s.rolls-AssignOn p on)

  pub stmt-if : (e : Expr) (a : Stmt) (b : Option Stmt) → t.node ≡ s.If e a b → (part_of t).reads around ≡ if_read around e (part_of a) (option_map part_of b)
  stmt-if e a None = read_as around t _ (s.rolls-If e a None)
  stmt-if e a (Some b) = read_as around t _ (s.rolls-If e a (Some b))

  pub stmt-while : (e : Expr) (xs : List Stmt) → t.node ≡ s.While e xs → (part_of t).reads around ≡ while_read around e (map part_of xs)
  stmt-while e xs = read_as around t _ (s.rolls-While e xs)

  pub stmt-for : (n : Name) (e : Expr) (xs : List Stmt) → t.node ≡ s.For n e xs → (part_of t).reads around ≡ for_read around n e (map part_of xs)
  stmt-for n e xs = read_as around t _ (s.rolls-For n e xs)

  pub stmt-break : t.node ≡ s.Break → (part_of t).reads around ≡ jump_read around t.spot made.Break
  stmt-break = read_as around t _ s.rolls-Break

  pub stmt-continue : t.node ≡ s.Continue → (part_of t).reads around ≡ jump_read around t.spot made.Continue
  stmt-continue = read_as around t _ s.rolls-Continue

  pub stmt-return : (e : Option Expr) → t.node ≡ s.Return e → (part_of t).reads around ≡ return_read around t.spot e
  stmt-return e = read_as around t _ (s.rolls-Return e)

  pub stmt-die : t.node ≡ s.Die → (part_of t).reads around ≡ pure made.Die
  stmt-die = read_as around t _ s.rolls-Die

  pub stmt-print : (e : Expr) → t.node ≡ s.Print e → (part_of t).reads around ≡ print_read around.table e
  stmt-print e = read_as around t _ (s.rolls-Print e)

  pub stmt-log : (e : Expr) (l : Level) → t.node ≡ s.Log e l → (part_of t).reads around ≡ log_read around.table e l
  stmt-log e l = read_as around t _ (s.rolls-Log e l)

  pub stmt-route : (e : Expr) → t.node ≡ s.Route e → (part_of t).reads around ≡ route_read around.table e
  stmt-route e = read_as around t _ (s.rolls-Route e)

  pub stmt-send : (e f : Expr) → t.node ≡ s.Send e f → (part_of t).reads around ≡ send_read around.table e f
  stmt-send e f = read_as around t _ (s.rolls-Send e f)

  pub stmt-spawn : (n : List ℕ) (es : List Expr) (to : Option Expr) → t.node ≡ s.Spawn n es to → (part_of t).reads around ≡ spawn_read around.table t.spot n es to
  stmt-spawn n es to = read_as around t _ (s.rolls-Spawn n es to)

  pub stmt-monitor : (n : List ℕ) (es : List Expr) → t.node ≡ s.Monitor n es → (part_of t).reads around ≡ monitor_read around.table t.spot n es
  stmt-monitor n es = read_as around t _ (s.rolls-Monitor n es)

  pub stmt-call : (e : Expr) → t.node ≡ s.Call e → (part_of t).reads around ≡ call_read around.table e
  stmt-call e = read_as around t _ (s.rolls-Call e)

pub on-listen : (around : Around) (takes : Bool) (l : Listening) → (on_part_of l).reads around takes ≡ listen_read around takes (out-Listening l).spot (out-Listening l).event (part_of (out-Listening l).callback)
unfolding part_of on_part_of
on-listen around takes l = ap (λ p. p.reads around takes) (fold_out-Listening NodePart OnPart Part node_part on_part stmt_part l)

-- a row of statements, one after another
pub rows_of : (around : Around) → Rows (λ (xs : List Stmt). map (λ (p : Part). p.reads around) (map part_of xs)) (λ (t : Stmt). (part_of t).reads around)
rows_of around = record { none = refl; more = λ x xs. refl }
