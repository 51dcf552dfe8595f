-- What a statement without parts that are statements means, by its form.
use Rattle.std.proofs.Common.{◌≡◌, ℕ, List, Option, refl, sym, ap, ◌∙◌}
use Rattle.epl_values.specs.declared.shape.Shape.{Shape}
use Rattle.epl_values.specs.declared.value.Value.TheVariants as value
use Rattle.epl_tree.specs.declared.statement.Level.{Level}
use Rattle.typed_program.specs.declared.expression.TypedExpr.{TypedExpr}
use Rattle.typed_program.specs.declared.program.Program.{Program}
use Rattle.typed_program.specs.declared.statement.Stmt.{Stmt, Stmt-F, roll-Stmt, out-Stmt, roll-out-Stmt}
use Rattle.typed_program.specs.declared.statement.Stmt.TheOpen as layer
use Rattle.typed_program.specs.declared.statement.Stmt.TheVariants as tree
use Rattle.typed_program.specs.declared.statement.TypedPlace.{TypedPlace}
use Rattle.value_rules.specs.Defaults.{default_of}
use Rattle.body_meaning.specs.declared.run.Flow.TheVariants.{Broke, Continued}
use Rattle.body_meaning.specs.declared.run.Halt.TheVariants.{Died}
use Rattle.body_meaning.specs.Acts.{enter}
use Rattle.body_meaning.specs.Effects.{print, log, route, send, subscribe, unsubscribe}
use Rattle.body_meaning.specs.Expressions.{meaning_of}
use Rattle.body_meaning.specs.Runs.{◌>>=◌, ◌>>◌, pure, halt, charge}
use Rattle.body_meaning.specs.Statements.{done, set, assign, place_moves, listener_of, returned, spawned, level_number}
use Rattle.walk_rules.proofs.StatementForms.{on_stmt_is, declare_stmt_is, declare_as_stmt_is, declare_on_stmt_is, assign_stmt_is, assign_on_stmt_is, break_stmt_is, continue_stmt_is, return_stmt_is, die_stmt_is, call_stmt_is, print_stmt_is, log_stmt_is, route_stmt_is, send_stmt_is, spawn_stmt_is, subscribe_stmt_is, unsubscribe_stmt_is}
use Rattle.expr_walker.specs.Means.{value_by}
use Rattle.stmt_walker.specs.Means.{stmt_by}
use Rattle.stmt_walker.specs.Singles.{effect_step, effect_by, single_step, single_by}

-- a statement by its layer
pub back : (s t : Stmt) (d : Stmt-F Stmt) → roll-Stmt d ≡ t → out-Stmt s ≡ d → s ≡ t
back s t d rolls is = sym (roll-out-Stmt s) ∙ ap roll-Stmt is ∙ rolls

module _ (program : Program) (depth : ℕ) (s : Stmt) where
  -- an effect by the layer of its statement
  effect_at : (d : Stmt-F Stmt) → out-Stmt s ≡ d → effect_by program depth s ≡ effect_step program depth d
  unfolding effect_by
  effect_at d is = ap (effect_step program depth) is

  -- a single statement by its layer
  single_at : (d : Stmt-F Stmt) → out-Stmt s ≡ d → single_by program depth s ≡ single_step program depth s d
  unfolding single_by
  single_at d is = ap (single_step program depth s) is

  -- ---- effects

  pub print_effect : (text : TypedExpr) → s ≡ tree.Print text → effect_by program depth s ≡ (value_by program depth text >>= print)
  print_effect text is = effect_at (layer.Print text) (ap out-Stmt is ∙ tree.outs-Print text)

  pub log_effect : (text : TypedExpr) (l : Level) (n : ℕ) → s ≡ tree.Log text l → n ≡ level_number l → effect_by program depth s ≡ (value_by program depth text >>= log n)
  log_effect text l n is same = effect_at (layer.Log text l) (ap out-Stmt is ∙ tree.outs-Log text l) ∙ ap (λ k. value_by program depth text >>= log k) (sym same)

  pub route_effect : (e : TypedExpr) → s ≡ tree.Route e → effect_by program depth s ≡ (value_by program depth e >>= route)
  route_effect e is = effect_at (layer.Route e) (ap out-Stmt is ∙ tree.outs-Route e)

  pub send_effect : (e : TypedExpr) (to : TypedExpr) → s ≡ tree.Send e to → effect_by program depth s ≡ (value_by program depth e >>= (λ event. value_by program depth to >>= send event))
  send_effect e to is = effect_at (layer.Send e to) (ap out-Stmt is ∙ tree.outs-Send e to)

  pub spawn_effect : (n : ℕ) (es : List TypedExpr) (to : Option TypedExpr) → s ≡ tree.Spawn n es to → effect_by program depth s ≡ spawned program.types program.sites (enter program depth) n es to
  spawn_effect n es to is = effect_at (layer.Spawn n es to) (ap out-Stmt is ∙ tree.outs-Spawn n es to)

  pub subscribe_effect : (channel : TypedExpr) → s ≡ tree.Subscribe channel → effect_by program depth s ≡ (value_by program depth channel >>= subscribe)
  subscribe_effect channel is = effect_at (layer.Subscribe channel) (ap out-Stmt is ∙ tree.outs-Subscribe channel)

  pub unsubscribe_effect : (channel : TypedExpr) → s ≡ tree.Unsubscribe channel → effect_by program depth s ≡ (value_by program depth channel >>= unsubscribe)
  unsubscribe_effect channel is = effect_at (layer.Unsubscribe channel) (ap out-Stmt is ∙ tree.outs-Unsubscribe channel)

  module _ (no_print : (text : TypedExpr) → s ≡ tree.Print text → ⊥) (no_log : (text : TypedExpr) (l : Level) → s ≡ tree.Log text l → ⊥) (no_route : (e : TypedExpr) → s ≡ tree.Route e → ⊥) (no_send : (e : TypedExpr) (to : TypedExpr) → s ≡ tree.Send e to → ⊥) (no_spawn : (n : ℕ) (es : List TypedExpr) (to : Option TypedExpr) → s ≡ tree.Spawn n es to → ⊥) (no_subscribe : (channel : TypedExpr) → s ≡ tree.Subscribe channel → ⊥) (no_unsubscribe : (channel : TypedExpr) → s ≡ tree.Unsubscribe channel → ⊥) where
    -- by the layer
    other_effect_at : (d : Stmt-F Stmt) → out-Stmt s ≡ d → effect_step program depth d ≡ pure value.NoContext
    other_effect_at (layer.Block parts) is = refl
    other_effect_at (layer.On site) is = refl
    other_effect_at (layer.Declare n shape) is = refl
    other_effect_at (layer.DeclareAs n e) is = refl
    other_effect_at (layer.DeclareOn n site) is = refl
    other_effect_at (layer.Assign place e) is = refl
    other_effect_at (layer.AssignOn place site) is = refl
    other_effect_at (layer.If test part other) is = refl
    other_effect_at (layer.While test parts) is = refl
    other_effect_at (layer.For n items parts) is = refl
    other_effect_at layer.Break is = refl
    other_effect_at layer.Continue is = refl
    other_effect_at (layer.Return e) is = refl
    other_effect_at layer.Die is = refl
    other_effect_at (layer.Print text) is = absurd (no_print text (back s (tree.Print text) (layer.Print text) (tree.rolls-Print text) is))
    other_effect_at (layer.Log text l) is = absurd (no_log text l (back s (tree.Log text l) (layer.Log text l) (tree.rolls-Log text l) is))
    other_effect_at (layer.Route e) is = absurd (no_route e (back s (tree.Route e) (layer.Route e) (tree.rolls-Route e) is))
    other_effect_at (layer.Send e to) is = absurd (no_send e to (back s (tree.Send e to) (layer.Send e to) (tree.rolls-Send e to) is))
    other_effect_at (layer.Spawn n es to) is = absurd (no_spawn n es to (back s (tree.Spawn n es to) (layer.Spawn n es to) (tree.rolls-Spawn n es to) is))
    other_effect_at (layer.Subscribe channel) is = absurd (no_subscribe channel (back s (tree.Subscribe channel) (layer.Subscribe channel) (tree.rolls-Subscribe channel) is))
    other_effect_at (layer.Unsubscribe channel) is = absurd (no_unsubscribe channel (back s (tree.Unsubscribe channel) (layer.Unsubscribe channel) (tree.rolls-Unsubscribe channel) is))
    other_effect_at (layer.Call e) is = refl

    -- any other statement gives no context
    pub other_effect : effect_by program depth s ≡ pure value.NoContext
    other_effect = effect_at (out-Stmt s) refl ∙ other_effect_at (out-Stmt s) refl

  -- ---- single statements

  pub on_single : (site : ℕ) → s ≡ tree.On site → single_by program depth s ≡ done (listener_of program.types program.sites (enter program depth) site)
  on_single site is = single_at (layer.On site) (ap out-Stmt is ∙ tree.outs-On site)

  pub declare_single : (n : ℕ) (shape : Shape) → s ≡ tree.Declare n shape → single_by program depth s ≡ set n (default_of program.types shape)
  declare_single n shape is = single_at (layer.Declare n shape) (ap out-Stmt is ∙ tree.outs-Declare n shape)

  pub declare_as_single : (n : ℕ) (e : TypedExpr) → s ≡ tree.DeclareAs n e → single_by program depth s ≡ (value_by program depth e >>= set n)
  declare_as_single n e is = single_at (layer.DeclareAs n e) (ap out-Stmt is ∙ tree.outs-DeclareAs n e)

  pub declare_on_single : (n : ℕ) (site : ℕ) → s ≡ tree.DeclareOn n site → single_by program depth s ≡ (listener_of program.types program.sites (enter program depth) site >>= set n)
  declare_on_single n site is = single_at (layer.DeclareOn n site) (ap out-Stmt is ∙ tree.outs-DeclareOn n site)

  pub assign_single : (place : TypedPlace) (e : TypedExpr) → s ≡ tree.Assign place e → single_by program depth s ≡ assign place (place_moves program.types program.sites (enter program depth) place) (value_by program depth e)
  assign_single place e is = single_at (layer.Assign place e) (ap out-Stmt is ∙ tree.outs-Assign place e)

  pub assign_on_single : (place : TypedPlace) (site : ℕ) → s ≡ tree.AssignOn place site → single_by program depth s ≡ assign place (place_moves program.types program.sites (enter program depth) place) (listener_of program.types program.sites (enter program depth) site)
  assign_on_single place site is = single_at (layer.AssignOn place site) (ap out-Stmt is ∙ tree.outs-AssignOn place site)

  pub break_single : s ≡ tree.Break → single_by program depth s ≡ pure Broke
  break_single is = single_at layer.Break (ap out-Stmt is ∙ tree.outs-Break)

  pub continue_single : s ≡ tree.Continue → single_by program depth s ≡ pure Continued
  continue_single is = single_at layer.Continue (ap out-Stmt is ∙ tree.outs-Continue)

  pub return_single : (e : Option TypedExpr) → s ≡ tree.Return e → single_by program depth s ≡ returned program.types program.sites (enter program depth) e
  return_single e is = single_at (layer.Return e) (ap out-Stmt is ∙ tree.outs-Return e)

  pub die_single : s ≡ tree.Die → single_by program depth s ≡ halt Died
  die_single is = single_at layer.Die (ap out-Stmt is ∙ tree.outs-Die)

  pub call_single : (e : TypedExpr) → s ≡ tree.Call e → single_by program depth s ≡ done (meaning_of program.types (enter program depth) e).run
  call_single e is = single_at (layer.Call e) (ap out-Stmt is ∙ tree.outs-Call e)

  module _ (no_on : (site : ℕ) → s ≡ tree.On site → ⊥) (no_declare : (n : ℕ) (shape : Shape) → s ≡ tree.Declare n shape → ⊥) (no_declare_as : (n : ℕ) (e : TypedExpr) → s ≡ tree.DeclareAs n e → ⊥) (no_declare_on : (n : ℕ) (site : ℕ) → s ≡ tree.DeclareOn n site → ⊥) (no_assign : (place : TypedPlace) (e : TypedExpr) → s ≡ tree.Assign place e → ⊥) (no_assign_on : (place : TypedPlace) (site : ℕ) → s ≡ tree.AssignOn place site → ⊥) (no_break : s ≡ tree.Break → ⊥) (no_continue : s ≡ tree.Continue → ⊥) (no_return : (e : Option TypedExpr) → s ≡ tree.Return e → ⊥) (no_die : s ≡ tree.Die → ⊥) (no_call : (e : TypedExpr) → s ≡ tree.Call e → ⊥) where
    -- by the layer
    other_single_at : (d : Stmt-F Stmt) → out-Stmt s ≡ d → single_step program depth s d ≡ done (effect_by program depth s)
    other_single_at (layer.Block parts) is = refl
    other_single_at (layer.On site) is = absurd (no_on site (back s (tree.On site) (layer.On site) (tree.rolls-On site) is))
    other_single_at (layer.Declare n shape) is = absurd (no_declare n shape (back s (tree.Declare n shape) (layer.Declare n shape) (tree.rolls-Declare n shape) is))
    other_single_at (layer.DeclareAs n e) is = absurd (no_declare_as n e (back s (tree.DeclareAs n e) (layer.DeclareAs n e) (tree.rolls-DeclareAs n e) is))
    other_single_at (layer.DeclareOn n site) is = absurd (no_declare_on n site (back s (tree.DeclareOn n site) (layer.DeclareOn n site) (tree.rolls-DeclareOn n site) is))
    other_single_at (layer.Assign place e) is = absurd (no_assign place e (back s (tree.Assign place e) (layer.Assign place e) (tree.rolls-Assign place e) is))
    other_single_at (layer.AssignOn place site) is = absurd (no_assign_on place site (back s (tree.AssignOn place site) (layer.AssignOn place site) (tree.rolls-AssignOn place site) is))
    other_single_at (layer.If test part other) is = refl
    other_single_at (layer.While test parts) is = refl
    other_single_at (layer.For n items parts) is = refl
    other_single_at layer.Break is = absurd (no_break (back s tree.Break layer.Break tree.rolls-Break is))
    other_single_at layer.Continue is = absurd (no_continue (back s tree.Continue layer.Continue tree.rolls-Continue is))
    other_single_at (layer.Return e) is = absurd (no_return e (back s (tree.Return e) (layer.Return e) (tree.rolls-Return e) is))
    other_single_at layer.Die is = absurd (no_die (back s tree.Die layer.Die tree.rolls-Die is))
    other_single_at (layer.Print text) is = refl
    other_single_at (layer.Log text l) is = refl
    other_single_at (layer.Route e) is = refl
    other_single_at (layer.Send e to) is = refl
    other_single_at (layer.Spawn n es to) is = refl
    other_single_at (layer.Subscribe channel) is = refl
    other_single_at (layer.Unsubscribe channel) is = refl
    other_single_at (layer.Call e) is = absurd (no_call e (back s (tree.Call e) (layer.Call e) (tree.rolls-Call e) is))

    -- any other statement is an effect
    pub other_single : single_by program depth s ≡ done (effect_by program depth s)
    other_single = single_at (out-Stmt s) refl ∙ other_single_at (out-Stmt s) refl

  -- ---- behind the charge

  module _ (no_block : (parts : List Stmt) → s ≡ tree.Block parts → ⊥) (no_if : (test : TypedExpr) (part : Stmt) (other : Option Stmt) → s ≡ tree.If test part other → ⊥) (no_while : (test : TypedExpr) (parts : List Stmt) → s ≡ tree.While test parts → ⊥) (no_for : (n : ℕ) (items : TypedExpr) (parts : List Stmt) → s ≡ tree.For n items parts → ⊥) where
    -- by the layer
    charged_at : (d : Stmt-F Stmt) → out-Stmt s ≡ d → stmt_by program depth s ≡ (charge 1 >> single_by program depth s)
    charged_at (layer.Block parts) is = absurd (no_block parts (back s (tree.Block parts) (layer.Block parts) (tree.rolls-Block parts) is))
    charged_at (layer.On site) is = ap (stmt_by program depth) (back s (tree.On site) (layer.On site) (tree.rolls-On site) is) ∙ on_stmt_is program.types program.sites (enter program depth) site ∙ ap (λ m. charge 1 >> m) (sym (single_at (layer.On site) is))
    charged_at (layer.Declare n shape) is = ap (stmt_by program depth) (back s (tree.Declare n shape) (layer.Declare n shape) (tree.rolls-Declare n shape) is) ∙ declare_stmt_is program.types program.sites (enter program depth) n shape ∙ ap (λ m. charge 1 >> m) (sym (single_at (layer.Declare n shape) is))
    charged_at (layer.DeclareAs n e) is = ap (stmt_by program depth) (back s (tree.DeclareAs n e) (layer.DeclareAs n e) (tree.rolls-DeclareAs n e) is) ∙ declare_as_stmt_is program.types program.sites (enter program depth) n e ∙ ap (λ m. charge 1 >> m) (sym (single_at (layer.DeclareAs n e) is))
    charged_at (layer.DeclareOn n site) is = ap (stmt_by program depth) (back s (tree.DeclareOn n site) (layer.DeclareOn n site) (tree.rolls-DeclareOn n site) is) ∙ declare_on_stmt_is program.types program.sites (enter program depth) n site ∙ ap (λ m. charge 1 >> m) (sym (single_at (layer.DeclareOn n site) is))
    charged_at (layer.Assign place e) is = ap (stmt_by program depth) (back s (tree.Assign place e) (layer.Assign place e) (tree.rolls-Assign place e) is) ∙ assign_stmt_is program.types program.sites (enter program depth) place e ∙ ap (λ m. charge 1 >> m) (sym (single_at (layer.Assign place e) is))
    charged_at (layer.AssignOn place site) is = ap (stmt_by program depth) (back s (tree.AssignOn place site) (layer.AssignOn place site) (tree.rolls-AssignOn place site) is) ∙ assign_on_stmt_is program.types program.sites (enter program depth) place site ∙ ap (λ m. charge 1 >> m) (sym (single_at (layer.AssignOn place site) is))
    charged_at (layer.If test part other) is = absurd (no_if test part other (back s (tree.If test part other) (layer.If test part other) (tree.rolls-If test part other) is))
    charged_at (layer.While test parts) is = absurd (no_while test parts (back s (tree.While test parts) (layer.While test parts) (tree.rolls-While test parts) is))
    charged_at (layer.For n items parts) is = absurd (no_for n items parts (back s (tree.For n items parts) (layer.For n items parts) (tree.rolls-For n items parts) is))
    charged_at layer.Break is = ap (stmt_by program depth) (back s tree.Break layer.Break tree.rolls-Break is) ∙ break_stmt_is program.types program.sites (enter program depth) ∙ ap (λ m. charge 1 >> m) (sym (single_at layer.Break is))
    charged_at layer.Continue is = ap (stmt_by program depth) (back s tree.Continue layer.Continue tree.rolls-Continue is) ∙ continue_stmt_is program.types program.sites (enter program depth) ∙ ap (λ m. charge 1 >> m) (sym (single_at layer.Continue is))
    charged_at (layer.Return e) is = ap (stmt_by program depth) (back s (tree.Return e) (layer.Return e) (tree.rolls-Return e) is) ∙ return_stmt_is program.types program.sites (enter program depth) e ∙ ap (λ m. charge 1 >> m) (sym (single_at (layer.Return e) is))
    charged_at layer.Die is = ap (stmt_by program depth) (back s tree.Die layer.Die tree.rolls-Die is) ∙ die_stmt_is program.types program.sites (enter program depth) ∙ ap (λ m. charge 1 >> m) (sym (single_at layer.Die is))
    charged_at (layer.Print text) is = ap (stmt_by program depth) (back s (tree.Print text) (layer.Print text) (tree.rolls-Print text) is) ∙ print_stmt_is program.types program.sites (enter program depth) text ∙ ap (λ m. charge 1 >> done m) (sym (effect_at (layer.Print text) is)) ∙ ap (λ m. charge 1 >> m) (sym (single_at (layer.Print text) is))
    charged_at (layer.Log text l) is = ap (stmt_by program depth) (back s (tree.Log text l) (layer.Log text l) (tree.rolls-Log text l) is) ∙ log_stmt_is program.types program.sites (enter program depth) text l ∙ ap (λ m. charge 1 >> done m) (sym (effect_at (layer.Log text l) is)) ∙ ap (λ m. charge 1 >> m) (sym (single_at (layer.Log text l) is))
    charged_at (layer.Route e) is = ap (stmt_by program depth) (back s (tree.Route e) (layer.Route e) (tree.rolls-Route e) is) ∙ route_stmt_is program.types program.sites (enter program depth) e ∙ ap (λ m. charge 1 >> done m) (sym (effect_at (layer.Route e) is)) ∙ ap (λ m. charge 1 >> m) (sym (single_at (layer.Route e) is))
    charged_at (layer.Send e to) is = ap (stmt_by program depth) (back s (tree.Send e to) (layer.Send e to) (tree.rolls-Send e to) is) ∙ send_stmt_is program.types program.sites (enter program depth) e to ∙ ap (λ m. charge 1 >> done m) (sym (effect_at (layer.Send e to) is)) ∙ ap (λ m. charge 1 >> m) (sym (single_at (layer.Send e to) is))
    charged_at (layer.Spawn n es to) is = ap (stmt_by program depth) (back s (tree.Spawn n es to) (layer.Spawn n es to) (tree.rolls-Spawn n es to) is) ∙ spawn_stmt_is program.types program.sites (enter program depth) n es to ∙ ap (λ m. charge 1 >> done m) (sym (effect_at (layer.Spawn n es to) is)) ∙ ap (λ m. charge 1 >> m) (sym (single_at (layer.Spawn n es to) is))
    charged_at (layer.Subscribe channel) is = ap (stmt_by program depth) (back s (tree.Subscribe channel) (layer.Subscribe channel) (tree.rolls-Subscribe channel) is) ∙ subscribe_stmt_is program.types program.sites (enter program depth) channel ∙ ap (λ m. charge 1 >> done m) (sym (effect_at (layer.Subscribe channel) is)) ∙ ap (λ m. charge 1 >> m) (sym (single_at (layer.Subscribe channel) is))
    charged_at (layer.Unsubscribe channel) is = ap (stmt_by program depth) (back s (tree.Unsubscribe channel) (layer.Unsubscribe channel) (tree.rolls-Unsubscribe channel) is) ∙ unsubscribe_stmt_is program.types program.sites (enter program depth) channel ∙ ap (λ m. charge 1 >> done m) (sym (effect_at (layer.Unsubscribe channel) is)) ∙ ap (λ m. charge 1 >> m) (sym (single_at (layer.Unsubscribe channel) is))
    charged_at (layer.Call e) is = ap (stmt_by program depth) (back s (tree.Call e) (layer.Call e) (tree.rolls-Call e) is) ∙ call_stmt_is program.types program.sites (enter program depth) e ∙ ap (λ m. charge 1 >> m) (sym (single_at (layer.Call e) is))

    -- a statement without parts that are statements is charged as it begins
    pub charged_single : stmt_by program depth s ≡ (charge 1 >> single_by program depth s)
    charged_single = charged_at (out-Stmt s) refl
