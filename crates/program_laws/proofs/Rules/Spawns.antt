-- `spawn` and the calls of a monitor: where no fault is found, an action that isn't called is not begun.
use Rattle.std.proofs.Common.{◌≡◌, ◌∷◌, ◌||◌, ◌==◌, if◌then◌else◌}
use Rattle.program_laws.proofs.Common.{ℕ, length, map, List, [], Some, None, Bool, true, false, not, Option, refl, ap, sym, ◌∙◌, slice_get, arith, codes, list_any, bytes_eq, nat_tests, or_parts, Spot, Shape, Expr, TypedExpr, Mention, mentions, Visible, path_of, special_in, Scope, ActionHead, Exactly, is_callback, Mentioned, State, Around, when, is_special, expr_names, exprs_name, optional_names, either, any_of, exactly, reads, args_read, maybe_read, begun_read, spawned_read, spawn_read, spawn_codes, has_result, control, control_codes, channel_read, monitor_read, is_subscribe}
use Rattle.epl_values.specs.declared.shape.Shape.TheVariants as shape
use Rattle.typed_program.specs.declared.statement.Stmt.TheVariants as made
use Rattle.typed_program.specs.declared.statement.Stmt.TheOpen as layer
use Rattle.typed_program.specs.Paths.{plain}
use Rattle.stmt_check.specs.Bodies.{action_named}
use Rattle.stmt_check.specs.Captures.{Names as Named}
use Rattle.stmt_check.specs.Statements.{is_unsubscribe}
use Rattle.stmt_check.specs.Steps.{◌>>=◌, pure, tells}
use Rattle.program_laws.proofs.Lawful.Calls.{named_in}
use Rattle.program_laws.proofs.Lawful.Rules.{LawRules}
use Rattle.program_laws.proofs.Rules.Claims.{Claims, law_bind, law_pure, law_tells, law_by, law_as, law_known}
use Rattle.program_laws.proofs.Rules.Readings.{Read, Keeps, kept_as, reads_law, args_law, maybe_law, mentioned_either, mentioned_still}
use Rattle.program_laws.proofs.Rules.Sights.{sight_in, Law, Sees, Still, still_same, still_on, still_sees, still_behind}
use Rattle.program_laws.proofs.Shapes.Forms.{within_first, within_second}
use Rattle.program_laws.proofs.Shapes.Frames.{Frame}
use Rattle.program_laws.proofs.Shapes.Lists.{both_true, no_both, no_when}
use Rattle.program_laws.proofs.Shapes.Reading.{Fitting, Within}

-- ---- an action is found by its name

plain_name : (name : List ℕ) → is_special name ≡ false → is_callback name ≡ false
plain_name name h = by (bytes_eq name (codes "onload")) h
  where
    by : (b : Bool) → (if b then true else bytes_eq name (codes "ondie")) ≡ false → (b || bytes_eq name (codes "ondie")) ≡ false
    by true h = cc
    by false h = h

code_told : {A : Type 0} (code : ℕ) → (code ∷ []) ≡ [] → A
code_told code h = cc

is_one : (n : ℕ) → not (n == 1) ≡ false → n ≡ 1
is_one n h = grind (arith, nat_tests)

-- what is found of the only one of a list
mentioned_only : (scope : Scope) (e : Expr) (args : List Expr) (m : Mention) → length (e ∷ args) ≡ 1 → Mentioned scope (expr_names e) m → Mentioned scope (exprs_name (e ∷ args)) m
mentioned_only scope e [] m h k = record { mentioned = λ name x is at other. k.mentioned name x (only (expr_names e name) is) at other }
  where
    only : (b : Bool) → (b || false) ≡ true → b ≡ true
    only true h = refl
    only false h = h
mentioned_only scope e (a ∷ args) m h k = absurd (omega arith)

module _ (rules : LawRules) (f : Frame) (around : Around) (fitting : Fitting f around) (law : Law f around.table) where
  apart_here : (name : List ℕ) (head : ActionHead) (count : ℕ) → action_named around.table f.monitor name ≡ Some head → spawn_codes head count ≡ [] → not (list_any (λ m. m == head.number) (special_in f.program f.monitor)) ≡ true
  apart_here name head count found codes =
      let split = no_both (when (not (count == length head.params)) 8) (when (is_special head.name || has_result head.result) 20) codes in
      let quiet = or_parts (is_special head.name) (has_result head.result) (no_when (is_special head.name || has_result head.result) 20 split.1) in
      let called = named_in (slice_get around.table.monitors f.monitor) name head found in
      ap not (law.apart name head found (ap is_callback (sym called) ∙ plain_name head.name quiet.0))

  begun_law : {k : ℕ} (spot : Spot) (name : List ℕ) (head : ActionHead) (args : List Expr) (to : Option Expr) → Within (either (exprs_name args) (optional_names to)) f.named → (v : List Shape → List Visible) (s : State) → Claims f k k (λ all. Sees f law.low (v all) s × (action_named around.table f.monitor name ≡ Some head)) (Keeps f around law (either (exprs_name args) (optional_names to)) v s) s (begun_read around.table spot head args to s)
  begun_law spot name head args to within v s = law_bind f (tells spot (λ s. spawn_codes head (length args))) (λ _. args_read around.table head.params args >>= λ args. maybe_read around.table (exactly shape.Context) to >>= λ to. pure (made.Spawn head.number args to)) s
      (law_tells f {Q = λ all x t. (not (list_any (λ m. m == head.number) (special_in f.program f.monitor)) ≡ true) × Still s t} spot (λ s. spawn_codes head (length args)) s (λ all h codes. (apart_here name head (length args) h.1 codes, still_same s)))
      (law_bind f (args_read around.table head.params args) (λ args. maybe_read around.table (exactly shape.Context) to >>= λ to. pure (made.Spawn head.number args to)) _
      (args_law rules f around fitting law head.params args (within_first (exprs_name args) (optional_names to) within) v _ (λ all h. still_sees h.0.0 h.1.1))
      (law_bind f (maybe_read around.table (exactly shape.Context) to) (λ to. pure (made.Spawn head.number _ to)) _
      (maybe_law rules f around fitting law (Exactly shape.Context) to (within_second (exprs_name args) (optional_names to) within) v _ (λ all h. still_sees h.0.0.0 (still_on h.0.1.1 h.1.still)))
      (law_pure f _ _ (λ all h. kept_as f around law (either (exprs_name args) (optional_names to)) v s _ all (layer.Spawn head.number _ _) _ (made.rolls-Spawn head.number _ _) (record {
        lawful = both_true (both_true h.0.0.1.0 h.0.1.fine) h.1.fine;
        behind = still_behind h.0.0.0.0 (still_on (still_on h.0.0.1.1 h.0.1.still) h.1.still);
        mentioned = mentioned_either s.scope (exprs_name args) (optional_names to) _ _ (mentioned_still s _ (exprs_name args) _ h.0.0.1.1 h.0.1.mentioned) (mentioned_still s _ (optional_names to) _ (still_on h.0.0.1.1 h.0.1.still) h.1.mentioned);
      })))))

  spawned_law : {k : ℕ} (spot : Spot) (name : List ℕ) (head : Option ActionHead) (args : List Expr) (to : Option Expr) → Within (either (exprs_name args) (optional_names to)) f.named → (v : List Shape → List Visible) (s : State) → Claims f k k (λ all. Sees f law.low (v all) s × (action_named around.table f.monitor name ≡ head)) (Keeps f around law (either (exprs_name args) (optional_names to)) v s) s (spawned_read around.table spot head args to s)
  spawned_law spot name None args to within v s = law_bind f (tells spot (λ s. 6 ∷ [])) (λ _. pure made.Die) s
      (law_tells f {Q = λ all x t. (let codes : List ℕ = 6 ∷ [] in codes) ≡ []} spot (λ s. 6 ∷ []) s (λ all h codes. codes))
      (law_pure f _ _ (λ all h. code_told 6 h.1))
  spawned_law spot name (Some head) args to within v s = begun_law spot name head args to within v s

  -- the action that begins is neither `onload` nor `ondie`, and what it is given keeps the rules
  pub spawn_law : {k : ℕ} (spot : Spot) (name : List ℕ) (args : List Expr) (to : Option Expr) → Within (either (exprs_name args) (optional_names to)) f.named → (v : List Shape → List Visible) (s : State) → Claims f k k (λ all. Sees f law.low (v all) s) (Keeps f around law (either (exprs_name args) (optional_names to)) v s) s (spawn_read around.table spot name args to s)
  spawn_law spot name args to within v s = law_by f (λ s. spawned_read around.table spot (action_named around.table s.scope.monitor name) args to) s
      (law_known f (λ all before. ap (λ (m : ℕ). action_named around.table m name) (sym before.monitor)) (spawned_law spot name (action_named around.table s.scope.monitor name) args to within v s))

  -- ---- channels

  control_kept : (named : Named) (v : List Shape → List Visible) (s t : State) (all : List Shape) (b : Bool) (channel : TypedExpr) → Read s t named (plain (path_of (sight_in f (v all)) channel)) (mentions channel) → Sees f law.low (v all) s → Keeps f around law named v s all (elim b [ true ↦ made.Subscribe channel | false ↦ made.Unsubscribe channel ]) t
  control_kept named v s t all true channel h sees = kept_as f around law named v s t all (layer.Subscribe channel) _ (made.rolls-Subscribe channel) (record { lawful = h.fine; behind = still_behind sees h.still; mentioned = h.mentioned })
  control_kept named v s t all false channel h sees = kept_as f around law named v s t all (layer.Unsubscribe channel) _ (made.rolls-Unsubscribe channel) (record { lawful = h.fine; behind = still_behind sees h.still; mentioned = h.mentioned })

  channel_law : {k : ℕ} (name : List ℕ) (args : List Expr) → Within (exprs_name args) f.named → (v : List Shape → List Visible) (s t : State) → Claims f k k (λ all. Sees f law.low (v all) s × (length args ≡ 1) × Still s t) (Keeps f around law (exprs_name args) v s) t (channel_read around.table name (slice_get args 0) t)
  channel_law name [] within v s t = law_pure f made.Die t (λ all h. (let e = h.1 in absurd (omega arith)))
  channel_law name (e ∷ args) within v s t = law_bind f (reads around.table (exactly shape.Text) e) (λ channel. pure (control name channel)) t
      (reads_law rules f around fitting law (exactly shape.Text) e (within_first (expr_names e) (any_of (map expr_names args)) within) v t (λ all h. still_sees h.0 h.2))
      (law_pure f _ _ (λ all h. control_kept (exprs_name (e ∷ args)) v s _ all (is_subscribe name) _ (record {
        fine = h.1.fine;
        mentioned = mentioned_only s.scope e args _ h.0.1 (mentioned_still s t (expr_names e) _ h.0.2 h.1.mentioned);
        still = still_on h.0.2 h.1.still;
      }) h.0.0))

  -- the channel keeps the rules
  pub monitor_law : {k : ℕ} (spot : Spot) (name : List ℕ) (args : List Expr) → Within (exprs_name args) f.named → (v : List Shape → List Visible) (s : State) → Claims f k k (λ all. Sees f law.low (v all) s) (Keeps f around law (exprs_name args) v s) s (monitor_read around.table spot name args s)
  monitor_law spot name args within v s = law_bind f (tells spot (λ s. control_codes name (length args))) (λ _. channel_read around.table name (slice_get args 0)) s
      (law_tells f {Q = λ all x t. (length args ≡ 1) × Still s t} spot (λ s. control_codes name (length args)) s (λ all h codes. (is_one (length args) (no_when (not (length args == 1)) 8 (no_both (when (not (is_subscribe name || is_unsubscribe name)) 6) (when (not (length args == 1)) 8) codes).1), still_same s)))
      (law_as f (λ all h. (h.0, h.1.0, h.1.1)) (λ all h q. q) (channel_law name args within v s _))
