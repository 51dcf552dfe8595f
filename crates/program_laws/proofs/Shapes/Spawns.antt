-- `spawn` and the calls of a monitor: where no fault is found, the action is there and takes what it is given.
use Rattle.std.proofs.Common.{◌≡◌, ◌∷◌, ◌||◌, ◌==◌}
use Rattle.program_laws.proofs.Common.{ℕ, length, map, List, [], Some, None, Bool, true, false, not, Option, refl, ap, sym, ◌∙◌, slice_get, is_some, IfSome, list_all, not-false, eqb-true, eq-eqb, Spot, Shape, Expr, TypedExpr, have, if_known, stands, stmt_holds, ActionHead, Exactly, param_wants, result_given, KnowsAction, answers, gives_result, State, Around, when, is_special, expr_names, exprs_name, optional_names, either, any_of, exactly, reads, args_read, maybe_read, begun_read, spawned_read, spawn_read, spawn_codes, has_result, control, control_codes, channel_read, monitor_read, is_subscribe}
use Rattle.epl_values.specs.declared.shape.Shape.TheVariants as shape
use Rattle.typed_program.specs.declared.statement.Stmt.TheVariants as made
use Rattle.typed_program.specs.declared.statement.Stmt.TheOpen as layer
use Rattle.typed_program.specs.Expressions.{has}
use Rattle.typed_program.specs.Statements.{begins, goes_to}
use Rattle.type_table.specs.declared.table.ResultHead.{ResultHead}
use Rattle.type_table.specs.declared.table.ResultHead.TheVariants as result
use Rattle.stmt_check.specs.Bodies.{action_named}
use Rattle.stmt_check.specs.Steps.{◌>>=◌, pure, tells}
use Rattle.program_laws.proofs.Exprs.Accepted.{has_exact}
use Rattle.program_laws.proofs.Exprs.Standing.{text_stands, context_stands}
use Rattle.program_laws.proofs.Shapes.Forms.{Good, Free, within_first, within_second}
use Rattle.program_laws.proofs.Shapes.Frames.{Frame, Claim, names_of, body_of, claim_bind, claim_pure, claim_tells, claim_known, claim_by}
use Rattle.program_laws.proofs.Shapes.Lists.{both_true, no_both, no_when}
use Rattle.program_laws.proofs.Shapes.Made.{holds_as}
use Rattle.program_laws.proofs.Shapes.Reading.{Fitting, Within, reads_claim, args_claim, maybe_claim}
use Rattle.program_laws.proofs.Shapes.Rules.{Rules}

or_none : (a b : Bool) → (a || b) ≡ false → b ≡ false
or_none true b h = cc
or_none false b h = h

no_result : (head : ResultHead) (own : Option Shape) → has_result head ≡ false → result_given head ≡ gives_result own → not (is_some own) ≡ true
no_result result.Nothing None h same = refl
no_result result.Nothing (Some s) h same = cc
no_result result.Unknown own h same = cc
no_result (result.Value s) own h same = cc

-- another action's name is a fault
code_told : (code : ℕ) → (code ∷ []) ≡ [] → (b : Bool) → b ≡ true
code_told code h b = cc

module _ (rules : Rules) (f : Frame) (around : Around) (fitting : Fitting f around) where
  begins_so : (all : List Shape) (head : ActionHead) (args : List Expr) (items : List TypedExpr) → KnowsAction (names_of f all) head → spawn_codes head (length args) ≡ [] → ((shapes : List Shape) → param_wants head.params ≡ map (λ s. Some s) shapes → list_all (stands f.program.types) shapes ≡ true → length args ≡ length head.params → have (names_of f all) shapes items ≡ true) → if_known (begins (body_of f all) items) (slice_get f.program.actions head.number) ≡ true
  begins_so all head args items knows codes given =
      let split = no_both (when (not (length args == length head.params)) 8) (when (is_special head.name || has_result head.result) 20) codes in
      let long = eqb-true (length args) (length head.params) (not-false _ (no_when (not (length args == length head.params)) 8 split.0)) in
      let quiet = or_none (is_special head.name) (has_result head.result) (no_when (is_special head.name || has_result head.result) 20 split.1) in
      ap (if_known (begins (body_of f all) items)) knows.at
      ∙ both_true (both_true (eq-eqb knows.action.monitor f.monitor knows.own) (given knows.action.params knows.params knows.params_stand long)) (no_result head.result knows.action.result quiet knows.result)

  goes_so : (all : List Shape) (to : Option TypedExpr) → IfSome to (λ x. answers (names_of f all) (Exactly shape.Context) x ≡ true) → goes_to (body_of f all) to ≡ true
  goes_so all None h = refl
  goes_so all (Some e) h = has_exact (names_of f all) shape.Context e h

  begun_claim : {k : ℕ} (spot : Spot) (name : List ℕ) (head : ActionHead) (args : List Expr) (to : Option Expr) → Within (either (exprs_name args) (optional_names to)) f.named → (s : State) → Claim f k k (λ all. Free all × (action_named around.table f.monitor name ≡ Some head)) (Good f) s (begun_read around.table spot head args to s)
  begun_claim spot name head args to within s = claim_bind f (tells spot (λ s. spawn_codes head (length args))) (λ _. args_read around.table head.params args >>= λ args. maybe_read around.table (exactly shape.Context) to >>= λ to. pure (made.Spawn head.number args to)) s
      (claim_tells f spot (λ s. spawn_codes head (length args)) s)
      (claim_bind f (args_read around.table head.params args) (λ args. maybe_read around.table (exactly shape.Context) to >>= λ to. pure (made.Spawn head.number args to)) _
      (args_claim rules f around fitting head.params args (within_first (exprs_name args) (optional_names to) within) _)
      (claim_bind f (maybe_read around.table (exactly shape.Context) to) (λ to. pure (made.Spawn head.number _ to)) _
      (maybe_claim rules f around fitting (exactly shape.Context) to (within_second (exprs_name args) (optional_names to) within) _ (λ all h. context_stands f.program.types))
      (claim_pure f _ _ (λ all h. holds_as (body_of f all) (layer.Spawn head.number _ _) _ (made.rolls-Spawn head.number _ _)
      (both_true (begins_so all head args _ (fitting.world.actions all name head h.0.0.0.1) h.0.0.1 h.0.1) (goes_so all _ h.1.0))))))

  spawned_claim : {k : ℕ} (spot : Spot) (name : List ℕ) (head : Option ActionHead) (args : List Expr) (to : Option Expr) → Within (either (exprs_name args) (optional_names to)) f.named → (s : State) → Claim f k k (λ all. Free all × (action_named around.table f.monitor name ≡ head)) (Good f) s (spawned_read around.table spot head args to s)
  spawned_claim spot name None args to within s = claim_bind f (tells spot (λ s. 6 ∷ [])) (λ _. pure made.Die) s
      (claim_tells f spot (λ s. 6 ∷ []) s)
      (claim_pure f _ _ (λ all h. code_told 6 h.1 _))
  spawned_claim spot name (Some head) args to within s = begun_claim spot name head args to within s

  pub spawn_claim : {k : ℕ} (spot : Spot) (name : List ℕ) (args : List Expr) (to : Option Expr) → Within (either (exprs_name args) (optional_names to)) f.named → (s : State) → Claim f k k Free (Good f) s (spawn_read around.table spot name args to s)
  spawn_claim spot name args to within s = claim_by f (λ s. spawned_read around.table spot (action_named around.table s.scope.monitor name) args to) s
      (claim_known f (λ all. action_named around.table f.monitor name ≡ action_named around.table s.scope.monitor name) (λ all before. ap (λ (m : ℕ). action_named around.table m name) (sym before.monitor))
      (spawned_claim spot name (action_named around.table s.scope.monitor name) args to within s))

  -- ---- channels

  control_so : (all : List Shape) (b : Bool) (channel : TypedExpr) → has (names_of f all) shape.Text channel ≡ true → stmt_holds (body_of f all) (elim b [ true ↦ made.Subscribe channel | false ↦ made.Unsubscribe channel ]) ≡ true
  control_so all true channel h = holds_as (body_of f all) (layer.Subscribe channel) _ (made.rolls-Subscribe channel) h
  control_so all false channel h = holds_as (body_of f all) (layer.Unsubscribe channel) _ (made.rolls-Unsubscribe channel) h

  channel_claim : {k : ℕ} {H : List Shape → Type 0} (name : List ℕ) (args : List Expr) → Within (exprs_name args) f.named → (s : State) → Claim f k k H (Good f) s (channel_read around.table name (slice_get args 0) s)
  channel_claim name [] within s = claim_pure f made.Die s (λ all h. holds_as (body_of f all) layer.Die _ made.rolls-Die refl)
  channel_claim name (e ∷ args) within s = claim_bind f (reads around.table (exactly shape.Text) e) (λ channel. pure (control name channel)) s
      (reads_claim rules f around fitting (exactly shape.Text) e (within_first (expr_names e) (any_of (map expr_names args)) within) s (λ all h. text_stands f.program.types))
      (claim_pure f _ _ (λ all h. control_so all (is_subscribe name) _ (has_exact (names_of f all) shape.Text _ h.1)))

  pub monitor_claim : {k : ℕ} (spot : Spot) (name : List ℕ) (args : List Expr) → Within (exprs_name args) f.named → (s : State) → Claim f k k Free (Good f) s (monitor_read around.table spot name args s)
  monitor_claim spot name args within s = claim_bind f (tells spot (λ s. control_codes name (length args))) (λ _. channel_read around.table name (slice_get args 0)) s
      (claim_tells f spot (λ s. control_codes name (length args)) s)
      (channel_claim name args within _)
