-- What each form of statement means, as an equation.
use Rattle.std.proofs.Common.{◌≡◌}
use Rattle.walk_rules.proofs.Common.{ℕ, List, map, Option, None, Some, sym, ap, ◌∙◌, EventShape, TypedExpr, TypedPlace, Flow, M, choose, truth_of, Calls, value_of, row, done, set}
use Rattle.std.specs.Prelude.{option_map}
use Rattle.epl_values.specs.declared.shape.Shape.{Shape}
use Rattle.epl_tree.specs.declared.statement.Level.{Level}
use Rattle.typed_program.specs.declared.program.Site.{Site}
use Rattle.typed_program.specs.declared.statement.Stmt.{Stmt, Stmt-F, roll-Stmt, map-Stmt, fold-roll-Stmt}
use Rattle.typed_program.specs.declared.statement.Stmt.TheVariants as tree
use Rattle.value_rules.specs.Defaults.{default_of}
use Rattle.body_meaning.specs.declared.run.Flow.TheVariants.{Broke, Continued}
use Rattle.body_meaning.specs.declared.run.Halt.TheVariants.{Died}
use Rattle.body_meaning.specs.Runs.{◌>>=◌, ◌>>◌, pure, halt, charge}
use Rattle.body_meaning.specs.Effects.{print, log, route, send, subscribe, unsubscribe}
use Rattle.body_meaning.specs.Expressions.{meaning_of}
use Rattle.body_meaning.specs.Statements.{stmt_of, stmt_meant, assign, while_of, for_of, level_number, listener_of, place_moves, returned, spawned, otherwise}

module _ (types : List EventShape) (sites : List Site) (call : Calls) where
  rolled : {s : Stmt} (d : Stmt-F Stmt) → roll-Stmt d ≡ s → stmt_of types sites call s ≡ stmt_meant types sites call (map-Stmt Stmt (M Flow) (stmt_of types sites call) d)
  unfolding stmt_of
  rolled d is = ap (stmt_of types sites call) (sym is) ∙ fold-roll-Stmt (M Flow) (stmt_meant types sites call) d

  pub block_stmt_is : (parts : List Stmt) → stmt_of types sites call (tree.Block parts) ≡ (row (map (stmt_of types sites call) parts))
  block_stmt_is parts = rolled _ (tree.rolls-Block parts)

  pub on_stmt_is : (site : ℕ) → stmt_of types sites call (tree.On site) ≡ (charge 1 >> done (listener_of types sites call site))
  on_stmt_is site = rolled _ (tree.rolls-On site)

  pub declare_stmt_is : (n : ℕ) (shape : Shape) → stmt_of types sites call (tree.Declare n shape) ≡ (charge 1 >> set n (default_of types shape))
  declare_stmt_is n shape = rolled _ (tree.rolls-Declare n shape)

  pub declare_as_stmt_is : (n : ℕ) (e : TypedExpr) → stmt_of types sites call (tree.DeclareAs n e) ≡ (charge 1 >> (value_of types call e >>= set n))
  declare_as_stmt_is n e = rolled _ (tree.rolls-DeclareAs n e)

  pub declare_on_stmt_is : (n site : ℕ) → stmt_of types sites call (tree.DeclareOn n site) ≡ (charge 1 >> (listener_of types sites call site >>= set n))
  declare_on_stmt_is n site = rolled _ (tree.rolls-DeclareOn n site)

  pub assign_stmt_is : (place : TypedPlace) (e : TypedExpr) → stmt_of types sites call (tree.Assign place e) ≡ (charge 1 >> assign place (place_moves types sites call place) (value_of types call e))
  assign_stmt_is place e = rolled _ (tree.rolls-Assign place e)

  pub assign_on_stmt_is : (place : TypedPlace) (site : ℕ) → stmt_of types sites call (tree.AssignOn place site) ≡ (charge 1 >> assign place (place_moves types sites call place) (listener_of types sites call site))
  assign_on_stmt_is place site = rolled _ (tree.rolls-AssignOn place site)

  pub if_stmt_is : (test : TypedExpr) (part : Stmt) (other : Option Stmt) → stmt_of types sites call (tree.If test part other) ≡ (charge 1 >> (value_of types call test >>= (λ v. choose (truth_of v) (stmt_of types sites call part) (otherwise types sites call (option_map (stmt_of types sites call) other)))))
  if_stmt_is test part None = rolled _ (tree.rolls-If test part None)
  if_stmt_is test part (Some other) = rolled _ (tree.rolls-If test part (Some other))

  pub while_stmt_is : (test : TypedExpr) (parts : List Stmt) → stmt_of types sites call (tree.While test parts) ≡ (charge 1 >> while_of (value_of types call test) (row (map (stmt_of types sites call) parts)))
  while_stmt_is test parts = rolled _ (tree.rolls-While test parts)

  pub for_stmt_is : (n : ℕ) (items : TypedExpr) (parts : List Stmt) → stmt_of types sites call (tree.For n items parts) ≡ (charge 1 >> for_of n (value_of types call items) (row (map (stmt_of types sites call) parts)))
  for_stmt_is n items parts = rolled _ (tree.rolls-For n items parts)

  pub break_stmt_is : stmt_of types sites call tree.Break ≡ (charge 1 >> pure Broke)
  break_stmt_is = rolled _ tree.rolls-Break

  pub continue_stmt_is : stmt_of types sites call tree.Continue ≡ (charge 1 >> pure Continued)
  continue_stmt_is = rolled _ tree.rolls-Continue

  pub return_stmt_is : (e : Option TypedExpr) → stmt_of types sites call (tree.Return e) ≡ (charge 1 >> returned types sites call e)
  return_stmt_is e = rolled _ (tree.rolls-Return e)

  pub die_stmt_is : stmt_of types sites call tree.Die ≡ (charge 1 >> halt Died)
  die_stmt_is = rolled _ tree.rolls-Die

  pub print_stmt_is : (text : TypedExpr) → stmt_of types sites call (tree.Print text) ≡ (charge 1 >> done (value_of types call text >>= print))
  print_stmt_is text = rolled _ (tree.rolls-Print text)

  pub log_stmt_is : (text : TypedExpr) (level : Level) → stmt_of types sites call (tree.Log text level) ≡ (charge 1 >> done (value_of types call text >>= log (level_number level)))
  log_stmt_is text level = rolled _ (tree.rolls-Log text level)

  pub route_stmt_is : (e : TypedExpr) → stmt_of types sites call (tree.Route e) ≡ (charge 1 >> done (value_of types call e >>= route))
  route_stmt_is e = rolled _ (tree.rolls-Route e)

  pub send_stmt_is : (e to : TypedExpr) → stmt_of types sites call (tree.Send e to) ≡ (charge 1 >> done (value_of types call e >>= (λ event. value_of types call to >>= send event)))
  send_stmt_is e to = rolled _ (tree.rolls-Send e to)

  pub spawn_stmt_is : (n : ℕ) (es : List TypedExpr) (to : Option TypedExpr) → stmt_of types sites call (tree.Spawn n es to) ≡ (charge 1 >> done (spawned types sites call n es to))
  spawn_stmt_is n es to = rolled _ (tree.rolls-Spawn n es to)

  pub subscribe_stmt_is : (channel : TypedExpr) → stmt_of types sites call (tree.Subscribe channel) ≡ (charge 1 >> done (value_of types call channel >>= subscribe))
  subscribe_stmt_is channel = rolled _ (tree.rolls-Subscribe channel)

  pub unsubscribe_stmt_is : (channel : TypedExpr) → stmt_of types sites call (tree.Unsubscribe channel) ≡ (charge 1 >> done (value_of types call channel >>= unsubscribe))
  unsubscribe_stmt_is channel = rolled _ (tree.rolls-Unsubscribe channel)

  pub call_stmt_is : (e : TypedExpr) → stmt_of types sites call (tree.Call e) ≡ (charge 1 >> done (meaning_of types call e).run)
  call_stmt_is e = rolled _ (tree.rolls-Call e)

pub ruleset statement_forms = (block_stmt_is, on_stmt_is, declare_stmt_is, declare_as_stmt_is, declare_on_stmt_is, assign_stmt_is, assign_on_stmt_is, if_stmt_is, while_stmt_is, for_stmt_is, break_stmt_is, continue_stmt_is, return_stmt_is, die_stmt_is, print_stmt_is, log_stmt_is, route_stmt_is, send_stmt_is, spawn_stmt_is, subscribe_stmt_is, unsubscribe_stmt_is, call_stmt_is)
