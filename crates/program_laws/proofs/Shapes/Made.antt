-- Statements that are made, and what is asked of them: the equation of each form, and what an expression's answer says there.
use Rattle.std.proofs.Common.{◌≡◌, ◌∷◌}
use Rattle.program_laws.proofs.Common.{List, [], Some, None, Bool, true, false, Option, refl, ap, sym, ◌∙◌, AllByRecursion, and_parts, Shape, Shape-F, out-Shape, roll-Shape, TypedExpr, Stmt, Names, Checked, Paired, Stepping, node_so, step_so, entry_so, expr_so, link_so, suffix_so, if_known, checked, holds, shape_of, Body, stmt_holds, passes, Wish, Event, Channel, answers, wished}
use Rattle.epl_values.specs.declared.shape.Shape.TheVariants as shape
use Rattle.epl_values.specs.declared.shape.Shape.TheOpen as layer
use Rattle.epl_values.specs.declared.shape.Shape.TheViews.{roll-out-Shape}
use Rattle.typed_program.specs.declared.expression.TypedNode.TheFolds.{fold_out-TypedExpr}
use Rattle.typed_program.specs.declared.statement.Stmt.TheOpen.{Stmt-F}
use Rattle.typed_program.specs.declared.statement.Stmt.TheViews.{roll-Stmt}
use Rattle.typed_program.specs.declared.statement.Stmt.TheFolds.{fold-roll-Stmt, map-Stmt}
use Rattle.typed_program.specs.Expressions.{Node, Step, Linked}
use Rattle.typed_program.specs.Shapes.{is_event, is_channel}
use Rattle.typed_program.specs.Statements.{stmt_so, row_holds}
use Rattle.stmt_check.specs.Statements.{is_listener, is_listener_layer}
use Rattle.program_laws.proofs.Shapes.Lists.{both_true}

-- a statement of this layer holds where its layer does
pub holds_as : (b : Body) (d : Stmt-F Stmt) (s : Stmt) → roll-Stmt d ≡ s → stmt_so b (map-Stmt Stmt Bool (stmt_holds b) d) ≡ true → stmt_holds b s ≡ true
holds_as b d s is h = ap (stmt_holds b) (sym is) ∙ fold-roll-Stmt Bool (stmt_so b) d ∙ h

pub rows_hold : (b : Body) (row : List Stmt) → AllByRecursion (λ s. stmt_holds b s ≡ true) row → row_holds b row ≡ true
rows_hold b [] h = refl
rows_hold b (s ∷ row) h = both_true h.0 (rows_hold b row h.1)

-- what is a listener is that shape
listener_at : (d : Shape-F Shape) → is_listener_layer d ≡ true → d ≡ layer.Listener
listener_at layer.Listener h = refl
listener_at layer.Integer h = cc
listener_at layer.Boolean h = cc
listener_at layer.Text h = cc
listener_at (layer.Sequence item) h = cc
listener_at (layer.Dictionary key value) h = cc
listener_at (layer.Event n) h = cc
listener_at layer.Context h = cc

pub listener_is : (s : Shape) → is_listener s ≡ true → s ≡ shape.Listener
unfolding is_listener
listener_is s h = sym (roll-out-Shape s) ∙ ap roll-Shape (listener_at (out-Shape s) h) ∙ shape.rolls-Listener

-- ---- what an expression's answer says

pub shape_checked : (names : Names) (e : TypedExpr) → (checked names e).shape ≡ shape_of e
shape_checked names e = ap (λ (c : Checked). c.shape) (fold_out-TypedExpr Node Step Paired Checked Linked Stepping (node_so names) (step_so names.types) entry_so (expr_so names) link_so suffix_so e)

-- a value of a shape that passes a test
value_of : (wish : Wish) (s : Option Shape) (test : Shape → Bool) → wished wish s ≡ true → ((t : Shape) → wished wish (Some t) ≡ true → test t ≡ true) → (wished wish None ≡ false) → if_known test s ≡ true
value_of wish None test h g none = cc
value_of wish (Some t) test h g none = g t h

pub event_passes : (b : Body) (e : TypedExpr) → answers b.names Event e ≡ true → passes b is_event e ≡ true
event_passes b e h =
    let p = and_parts (holds b.names e) (wished Event (shape_of e)) h in
    both_true p.0 (value_of Event (shape_of e) is_event p.1 (λ t k. (and_parts (is_event t) true k).0) refl)

pub channel_passes : (b : Body) (e : TypedExpr) → answers b.names Channel e ≡ true → passes b is_channel e ≡ true
channel_passes b e h =
    let p = and_parts (holds b.names e) (wished Channel (shape_of e)) h in
    both_true p.0 (value_of Channel (shape_of e) is_channel p.1 (λ t k. (and_parts (is_channel t) true k).0) refl)
