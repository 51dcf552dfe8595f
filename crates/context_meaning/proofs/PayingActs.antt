-- Whole runs pay for what their effects weigh.
use Rattle.std.proofs.Common.{◌+◌, ◌-◌, ◌≤◌, ◌∷◌, ◌++◌}
use Rattle.context_meaning.proofs.Common.{ℕ, zero, suc, nat_lt, length, List, [], Option, Some, None, cond_both, Shape, Value, Program, Global, Action, Site, TypedExpr, Stmt, Scene, Flow, M, Outcome, Went, Ended, Calls, body_of, Act, act_of, come_to, Effect}
use Rattle.std.specs.Prelude.{slice_get}
use Rattle.std.specs.List.{sum_by}
use Rattle.body_meaning.specs.Acts.{act, action_run, begun_by, calls, defaults_of, enter, in_locals, initial_by, initials_from, run_of, runs, site_run}
use Rattle.context_meaning.proofs.Paying.{Pays, OutcomePays, pays_pure, pays_given, pays_look, pays_charge, pays_change, pays_bind, pays_seq}
use Rattle.context_meaning.proofs.Weighing.{Weighs}
use Rattle.context_meaning.proofs.PayingExprs.{CallsPay, expr_pays}
use Rattle.context_meaning.proofs.PayingStmts.{body_pays}

-- the fuel behind an act, with what its effects weigh, is at most this
abbrev pub ActPays : (Effect → ℕ) → ℕ → Act → Type 0
ActPays weigh fuel act = act.scene.fuel + sum_by weigh act.effects ≤ fuel

-- what an outcome comes to
come_pays : (weigh : Effect → ℕ) (fuel : ℕ) (o : Outcome (Option Value)) → OutcomePays weigh fuel o → ActPays weigh fuel (come_to o)
come_pays weigh fuel (Went did v s) h = h
come_pays weigh fuel (Ended did why s) h = h

module _ (weigh : Effect → ℕ) (weighs : Weighs weigh) (program : Program) where
  -- a run over locals of its own
  locals_pay : (locals : List Value) (m : M Flow) → Pays weigh m → Pays weigh (in_locals program locals m)
  unfolding in_locals
  locals_pay locals m k = pays_bind _ (pays_look _) (λ outer. pays_bind _ (pays_seq (pays_change _) k) (λ flow. pays_seq (pays_change _) (pays_pure _)))

  -- statements over arguments and further locals
  runs_pay : (call : Calls) → CallsPay weigh call → (locals : List Shape) (body : List Stmt) (arguments : List Value) → Pays weigh (runs program call locals body arguments)
  unfolding runs
  runs_pay call k locals body arguments = locals_pay (arguments ++ defaults_of program locals) (body_of program.types program.sites call body) (body_pays weigh weighs program.types program.sites call k body)

  -- an action that may be there
  action_pays : (call : Calls) → CallsPay weigh call → (o : Option Action) (arguments : List Value) → Pays weigh (action_run program call o arguments)
  action_pays call k None arguments = pays_pure _
  action_pays call k (Some action) arguments = runs_pay call k action.locals action.body arguments

  -- the callback of a site that may be there
  site_pays : (call : Calls) → CallsPay weigh call → (o : Option Site) (arguments : List Value) → Pays weigh (site_run program call o arguments)
  site_pays call k None arguments = pays_pure _
  site_pays call k (Some site) arguments = runs_pay call k site.locals site.body arguments

  -- calls, with as many more below them
  enter_pays : (depth : ℕ) → CallsPay weigh (enter program depth)
  unfolding enter
  enter_pays zero n arguments = pays_given _
  enter_pays (suc depth) n arguments = pays_bind _ (pays_seq (pays_charge 1) (action_pays (enter program depth) (enter_pays depth) (slice_get program.actions n) arguments)) (λ v. pays_pure _)

  -- calls of a body
  calls_pay : CallsPay weigh (calls program)
  calls_pay = enter_pays 256

  -- the initial value of a global
  initial_pays : (n : ℕ) (e : Option TypedExpr) → Pays weigh (initial_by program n e)
  initial_pays n None = pays_pure tt
  initial_pays n (Some e) = pays_bind _ (expr_pays weigh weighs program.types (calls program) calls_pay e).told (λ v. pays_change _)

  -- the initial values of globals
  initials_pay : (n : ℕ) (gs : List Global) → Pays weigh (initials_from program n gs)
  initials_pay n [] = pays_pure tt
  initials_pay n (g ∷ gs) = pays_seq (initial_pays n g.initial) (initials_pay (suc n) gs)

  -- a body by its number
  run_pays : (body : ℕ) (locals : List Value) → Pays weigh (run_of program body locals)
  run_pays body locals = cond_both (nat_lt body (length program.actions)) _ _ (λ (m : M (Option Value)). Pays weigh m) (λ _. pays_seq (initials_pay 0 (begun_by program body program.monitors)) (action_pays (calls program) calls_pay (slice_get program.actions body) locals)) (λ _. site_pays (calls program) calls_pay (slice_get program.sites (body - length program.actions)) locals)

  -- a run of a body pays
  pub body_act_pays : (body : ℕ) (locals : List Value) → Pays weigh (act program body locals)
  unfolding act
  body_act_pays body locals = pays_seq (pays_charge 1) (run_pays body locals)

  -- and so does what it comes to
  pub act_pays : (body : ℕ) (globals locals : List Value) (scene : Scene) (draws : List ℕ) → ActPays weigh scene.fuel (act_of program body globals locals scene draws)
  act_pays body globals locals scene draws = come_pays weigh scene.fuel _ ((body_act_pays body locals).from (record { scene = scene; draws = draws; frame = record { globals = globals; locals = [] } }))
