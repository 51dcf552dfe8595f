-- The runs of bodies: initial values, one global after another, and then the body.
use Rattle.std.proofs.Common.{◌≡◌, ℕ, ◌+◌, ◌-◌, ◌≤◌, ◌<◌, add-one, Bool, true, false, List, [], ◌∷◌, ◌++◌, length, drop, get_or, Option, Some, None, Result, Ok, Err, refl, sym, ap, ◌∙◌}
use Rattle.std.proofs.lemmas.Bool.{lt-ltb, le-ltb}
use Rattle.std.proofs.lemmas.List.{drop_all}
use Rattle.std.specs.Prelude.{slice_get, nat_lt, ◌==◌, if◌then◌else◌, cond}
use Rattle.std.specs.List.{find}
use Rattle.epl_values.specs.declared.shape.Shape.{Shape}
use Rattle.epl_values.specs.declared.value.Value.{Value}
use Rattle.typed_program.specs.declared.expression.TypedExpr.{TypedExpr}
use Rattle.typed_program.specs.declared.program.Program.{Program}
use Rattle.typed_program.specs.declared.program.Monitor.{Monitor}
use Rattle.typed_program.specs.declared.program.Global.{Global}
use Rattle.typed_program.specs.declared.program.Action.{Action}
use Rattle.typed_program.specs.declared.program.Site.{Site}
use Rattle.typed_program.specs.declared.statement.Stmt.{Stmt}
use Rattle.action_host.specs.Told.{Told}
use Rattle.body_meaning.specs.declared.run.Frame.{Frame}
use Rattle.body_meaning.specs.Runs.{M, ◌>>=◌, ◌>>◌, pure, charge, change}
use Rattle.body_meaning.specs.Expressions.{Calls, value_of}
use Rattle.body_meaning.specs.Statements.{body_of}
use Rattle.body_meaning.specs.Acts.{set_global, defaults_of, in_locals, runs, action_run, site_run, calls, initial_by, initial, initials_from, begun_by, run_of, act}
use Rattle.walk_rules.specs.declared.stop.Stop.{Stop}
use Rattle.walk_rules.specs.Ran.{Walks, Leads}
use Rattle.walk_rules.proofs.Running.{walks_pure, walks_change}
use Rattle.walk_rules.proofs.Binding.{walks_bind}
use Rattle.walk_rules.proofs.Leading.{leads_seq, leads_same, leads_walks, next_item}
use Rattle.path_bases.specs.Tells.{Tells}
use Rattle.walk_laws.proofs.Telling.{walks_tells, tells_walks, tells_as, tells_pure, tells_bind_err, tells_seq, tells_seq_err, leads_tells}

-- ---- initial values, from left to right

module _ (program : Program) (globals : List Global) (i : ℕ) where
  module _ (g : Global) (within : i < length globals) (is : g ≡ get_or globals i g) {m : M (Unit {0})} {t t1 : Told} {f f1 : Frame} (leads : Leads m t f (initials_from program i (drop i globals)) t1 f1) where
    initials_next : Leads m t f (initial program i g >> initials_from program (i + 1) (drop (i + 1) globals)) t1 f1
    initials_next = leads_same (ap (λ l. initials_from program i l) (next_item globals i g within is) ∙ ap (λ n. initial program i g >> initials_from program n (drop (i + 1) globals)) (sym (add-one i))) leads

    -- a global without an initial value
    pub initials_without : None ≡ g.initial → Leads m t f (initials_from program (i + 1) (drop (i + 1) globals)) t1 f1
    initials_without none = leads_seq _ (leads_same (ap (λ o. initial_by program i o >> initials_from program (i + 1) (drop (i + 1) globals)) (sym none)) initials_next) (walks_pure tt t1 f1)

    module _ (e : TypedExpr) (some : Some e ≡ g.initial) where
      initials_begun : Leads m t f (value_of program.types (calls program) e >>= (λ v. change (set_global i v)) >> initials_from program (i + 1) (drop (i + 1) globals)) t1 f1
      initials_begun = leads_same (ap (λ o. initial_by program i o >> initials_from program (i + 1) (drop (i + 1) globals)) (sym some)) initials_next

      -- a global with the value of an expression
      pub initials_step : {v : Value} {t2 : Told} {f2 f3 : Frame} → Tells (value_of program.types (calls program) e) t1 f1 t2 f2 (Ok v) → Ok f3 ≡ set_global i v f2 → Leads m t f (initials_from program (i + 1) (drop (i + 1) globals)) t2 f3
      initials_step {v} a stored = leads_seq _ initials_begun (walks_bind _ (walks_tells a) (walks_change (set_global i v) _ stored))

      -- where an initial value stops, all stop
      pub initials_stop : {stop : Stop} {t2 : Told} {f2 : Frame} → Tells (value_of program.types (calls program) e) t1 f1 t2 f2 (Err stop) → Tells m t f t2 f2 (Err stop)
      initials_stop a = leads_tells initials_begun (tells_seq_err _ (tells_bind_err _ a))

  -- behind the last global
  pub initials_end : {m : M (Unit {0})} {t t1 : Told} {f f1 : Frame} → length globals ≤ i → Leads m t f (initials_from program i (drop i globals)) t1 f1 → Walks m t f t1 f1 (Ok tt)
  initials_end past leads = leads_walks (leads_same (ap (λ l. initials_from program i l) (drop_all i globals past)) leads) (walks_pure tt _ _)

-- ---- the monitor whose `onload` a body is

abbrev globals_in : Option Monitor → List Global
globals_in None = []
globals_in (Some m) = m.globals

begun_case : (b : Bool) (x : Monitor) (o : Option Monitor) (gs : List Global) → gs ≡ globals_in o → (if b then x.globals else gs) ≡ globals_in (cond b (Some x) o)
begun_case true x o gs h = refl
begun_case false x o gs h = h

module _ (program : Program) (body : ℕ) where
  begun_is : (ms : List Monitor) → begun_by program body ms ≡ globals_in (find (λ (m : Monitor). m.onload == body) ms)
  begun_is [] = refl
  begun_is (m ∷ ms) = begun_case (m.onload == body) m (find (λ (m : Monitor). m.onload == body) ms) (begun_by program body ms) (begun_is ms)

  -- the globals of the first monitor that begins with this body
  pub begun_found : (ms : List Monitor) (m : Monitor) → find (λ (m : Monitor). m.onload == body) ms ≡ Some m → begun_by program body ms ≡ m.globals
  begun_found ms m h = begun_is ms ∙ ap globals_in h

  -- no monitor begins with it
  pub begun_none : (ms : List Monitor) → find (λ (m : Monitor). m.onload == body) ms ≡ None → begun_by program body ms ≡ []
  begun_none ms h = begun_is ms ∙ ap globals_in h

-- ---- a body by its number

-- statements over arguments and further locals
pub runs_is : (program : Program) (call : Calls) (locals : List Shape) (body : List Stmt) (arguments : List Value) → runs program call locals body arguments ≡ in_locals program (arguments ++ defaults_of program locals) (body_of program.types program.sites call body)
unfolding runs
runs_is program call locals body arguments = refl

module _ (program : Program) (body : ℕ) (locals : List Value) where
  abbrev begins : M (Option Value) → M (Option Value)
  begins m = initials_from program 0 (begun_by program body program.monitors) >> m

  chosen : (b : Bool) → nat_lt body (length program.actions) ≡ b → run_of program body locals ≡ (if b then begins (action_run program (calls program) (slice_get program.actions body) locals) else site_run program (calls program) (slice_get program.sites (body - length program.actions)) locals)
  chosen b is = ap (λ b. if b then begins (action_run program (calls program) (slice_get program.actions body) locals) else site_run program (calls program) (slice_get program.sites (body - length program.actions)) locals) is

  -- the numbers below that of the actions are actions
  pub run_action_is : (action : Action) → body < length program.actions → slice_get program.actions body ≡ Some action → run_of program body locals ≡ (initials_from program 0 (begun_by program body program.monitors) >> runs program (calls program) action.locals action.body locals)
  run_action_is action within found = chosen true (lt-ltb _ _ within) ∙ ap (λ o. begins (action_run program (calls program) o locals)) found

  -- and those behind them sites
  pub run_site_is : (site : Site) → length program.actions ≤ body → slice_get program.sites (body - length program.actions) ≡ Some site → run_of program body locals ≡ runs program (calls program) site.locals site.body locals
  run_site_is site past found = chosen false (le-ltb _ _ past) ∙ ap (λ o. site_run program (calls program) o locals) found

  -- a body that isn't there does nothing
  pub run_none_is : length program.actions ≤ body → slice_get program.sites (body - length program.actions) ≡ None → run_of program body locals ≡ pure None
  run_none_is past none = chosen false (le-ltb _ _ past) ∙ ap (λ o. site_run program (calls program) o locals) none

  -- a run is charged, and then it is that of its body
  pub tells_act : {r : Result (Option Value) Stop} {t t1 t2 : Told} {f f2 : Frame} → Walks (charge 1) t f t1 f (Ok tt) → Tells (run_of program body locals) t1 f t2 f2 r → Tells (act program body locals) t f t2 f2 r
  unfolding act
  tells_act paid a = tells_seq (tells_walks paid) a

  -- a run that isn't paid
  pub tells_act_unpaid : {stop : Stop} {t t1 : Told} {f f1 : Frame} → Walks (charge 1) t f t1 f1 (Err stop) → Tells (act program body locals) t f t1 f1 (Err stop)
  unfolding act
  tells_act_unpaid unpaid = tells_seq_err _ (tells_walks unpaid)

  module _ (action : Action) (within : body < length program.actions) (found : slice_get program.actions body ≡ Some action) {t t1 : Told} {f f1 : Frame} where
    -- an action behind the initial values
    pub tells_action : {r : Result (Option Value) Stop} {t2 : Told} {f2 : Frame} → Tells (initials_from program 0 (begun_by program body program.monitors)) t f t1 f1 (Ok tt) → Tells (runs program (calls program) action.locals action.body locals) t1 f1 t2 f2 r → Tells (run_of program body locals) t f t2 f2 r
    tells_action begun a = tells_as (run_action_is action within found) (tells_seq begun a)

    -- where an initial value stops, the run does
    pub tells_action_stop : {stop : Stop} → Tells (initials_from program 0 (begun_by program body program.monitors)) t f t1 f1 (Err stop) → Tells (run_of program body locals) t f t1 f1 (Err stop)
    tells_action_stop begun = tells_as (run_action_is action within found) (tells_seq_err _ begun)

    -- an action that no monitor begins with
    pub tells_action_alone : {r : Result (Option Value) Stop} → find (λ (m : Monitor). m.onload == body) program.monitors ≡ None → Tells (runs program (calls program) action.locals action.body locals) t f t1 f1 r → Tells (run_of program body locals) t f t1 f1 r
    tells_action_alone none a = tells_as (run_action_is action within found) (tells_seq (tells_as (ap (λ l. initials_from program 0 l) (begun_none program body program.monitors none)) (tells_pure tt t f)) a)

  -- a callback
  pub tells_site : (site : Site) {r : Result (Option Value) Stop} {t t1 : Told} {f f1 : Frame} → length program.actions ≤ body → slice_get program.sites (body - length program.actions) ≡ Some site → Tells (runs program (calls program) site.locals site.body locals) t f t1 f1 r → Tells (run_of program body locals) t f t1 f1 r
  tells_site site past found a = tells_as (run_site_is site past found) a

  -- a body that isn't there
  pub tells_no_body : (t : Told) (f : Frame) → length program.actions ≤ body → slice_get program.sites (body - length program.actions) ≡ None → Tells (run_of program body locals) t f t f (Ok None)
  tells_no_body t f past none = tells_as (run_none_is past none) (tells_pure None t f)
