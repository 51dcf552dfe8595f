-- What a run comes to keeps a context's fit.
use Rattle.std.proofs.Common.{◌≡◌, ◌+◌, ◌≤◌, ◌∷◌}
use Rattle.context_meaning.proofs.Common.{ℕ, ℤ, List, [], filter, slice_get, Bool, Option, Some, All, sym, ap, subst, ◌∙◌, same_Some, cond_both, All-head, All-tail, All-filter, All-push, All-weaker, Value, Program, Site, Typed, Effect, Scene, Outcome, Went, Ended, Act, act_of, come_to, AllFit, head_of, GlobalsFit, UnderWay, begun_in, setting_of, Instance, Listener, Waiting, Context, in_row, instance_of, is_instance, scene_of, spend, put_globals, with_clock, with_fuel, with_globals, with_line, with_listener, apply, apply_all, listening, with_act, act_in, InstanceFits, ListenerFits, ContextFits, IsTime, MayRun, WaitingFits}
use Rattle.action_host.specs.declared.host.Effect.TheVariants as effect
use Rattle.body_meaning.specs.Acts.{act}
use Rattle.typed_runs.specs.Bodies.{Head}
use Rattle.typed_runs.specs.Kept.{RunFits, EffectFits, ListenFits}
use Rattle.record_book.specs.declared.cargo.Line.{Line}
use Rattle.term_shapes.specs.Laws.{BeginsFit, StepsFit}
use Rattle.context_meaning.specs.declared.context.Waiting.TheVariants as waiting
use Rattle.context_meaning.proofs.Choosing.{with_some_both}
use Rattle.context_meaning.proofs.Finding.{find_all, find_put, all_put, number_is}

-- the law of runs: a run of a body of a typed program leaves globals of their shapes, and its effects carry what they are to carry
abbrev pub RunsKeepShapes : Type 0
RunsKeepShapes = (program : Program) → Typed program → (body : ℕ) (head : Head) → head_of program body ≡ Some head → (globals locals : List Value) → GlobalsFit program head.monitor globals → AllFit program.types locals head.params → (scene : Scene) (draws : List ℕ) → RunFits program head.monitor (act program body locals (record { scene = scene; draws = draws; frame = record { globals = globals; locals = [] } }))

-- the laws of typed programs: of runs, and of event expressions as they begin and through their steps
pub record ShapesKept : Type 0 where
  pub runs : RunsKeepShapes
  pub begins : BeginsFit
  pub steps : StepsFit

-- what an act left and did is of this monitor
abbrev pub ActFits : Program → ℕ → Act → Type 0
ActFits program monitor act = GlobalsFit program monitor act.globals × All (EffectFits program monitor) act.effects

-- what an outcome comes to
come_fits : (program : Program) (monitor : ℕ) (o : Outcome (Option Value)) → RunFits program monitor o → ActFits program monitor (come_to o)
come_fits program monitor (Went did v s) h = (h.1, h.0.effects)
come_fits program monitor (Ended did why s) h = (h.1, h.0.effects)

-- a context that fits, where the instance with this number was begun and is one of this monitor
pub record RunsIn (program : Program) (at of : ℕ) (c : Context) : Type 0 where
  pub fits : ContextFits program c
  pub begun : at ≤ c.begun
  pub same : (i : Instance) → instance_of at c ≡ Some i → i.monitor ≡ of

module _ (program : Program) where
  -- ---- small changes

  -- other fuel, lines or end
  pub fuel_fits : (c : Context) (fuel : ℕ) → ContextFits program c → ContextFits program (with_fuel fuel c)
  fuel_fits c fuel f = record { clock = f.clock; instances = f.instances; listeners = f.listeners; row = f.row; front = f.front }

  -- a context that is spent
  pub spend_fits : (c : Context) → ContextFits program c → ContextFits program (spend c)
  spend_fits c f = record { clock = f.clock; instances = f.instances; listeners = f.listeners; row = f.row; front = f.front }

  -- another time
  pub clock_fits : (now : ℤ) (c : Context) → IsTime now → ContextFits program c → ContextFits program (with_clock now c)
  clock_fits now c time f = record { clock = time; instances = f.instances; listeners = f.listeners; row = f.row; front = f.front }

  -- one line more
  pub line_fits : (l : Line) (c : Context) → ContextFits program c → ContextFits program (with_line l c)
  line_fits l c f = record { clock = f.clock; instances = f.instances; listeners = f.listeners; row = f.row; front = f.front }

  -- fewer listeners
  pub filter_fits : (p : Listener → Bool) (c : Context) → ContextFits program c → ContextFits program (record c { listeners = filter p c.listeners })
  filter_fits p c f = record { clock = f.clock; instances = f.instances; listeners = All-filter p (ListenerFits program c.begun c.instances) c.listeners f.listeners; row = f.row; front = f.front }

  -- one thing more in the row
  pub row_fits : (w : Waiting) (c : Context) → WaitingFits program w → ContextFits program c → ContextFits program (in_row w c)
  row_fits w c h f = record { clock = f.clock; instances = f.instances; listeners = f.listeners; row = All-push (WaitingFits program) c.row w f.row h; front = f.front }

  -- one more listener, in the instance with this number
  pub listener_fits : (at site : ℕ) (captured : List Value) (u : UnderWay) (c : Context) → ListenerFits program c.begun c.instances (record { birth = c.births + 1; instance = at; site = site; captured = captured; expression = u }) → ContextFits program c → ContextFits program (with_listener at site captured u c)
  listener_fits at site captured u c h f = record {
    clock = f.clock;
    instances = f.instances;
    listeners = All-push (ListenerFits program c.begun c.instances) c.listeners _ f.listeners h;
    row = f.row;
    front = f.front;
  }

  -- ---- globals

  -- the instance with other globals of its monitor
  globals_fit : (at of : ℕ) (globals : List Value) (c : Context) → GlobalsFit program of globals → RunsIn program at of c → ContextFits program (with_globals at globals c)
  globals_fit at of globals c g r = record {
    clock = r.fits.clock;
    instances = all_put (InstanceFits program c.begun) at globals c.instances r.fits.instances (λ i found. let old = find_all (InstanceFits program c.begun) (is_instance at) c.instances i r.fits.instances found in record { number = old.number; monitor = old.monitor; globals = subst (λ m. GlobalsFit program m globals) (sym (r.same i found)) g });
    listeners = All-weaker (ListenerFits program c.begun c.instances) (ListenerFits program c.begun (put_globals at globals c.instances)) (λ l h. record { instance = h.instance; site = h.site; there = h.there; captured = h.captured; expression = h.expression; monitor = λ i found. let old = find_put at l.instance globals c.instances i found in sym old.2 ∙ h.monitor old.0 old.1 }) c.listeners r.fits.listeners;
    row = r.fits.row;
    front = r.fits.front;
  }

  -- the instance gets globals of its monitor
  pub globals_run : (at of : ℕ) (globals : List Value) (c : Context) → GlobalsFit program of globals → RunsIn program at of c → RunsIn program at of (with_globals at globals c)
  globals_run at of globals c g r = record { fits = globals_fit at of globals c g r; begun = r.begun; same = λ i found. let old = find_put at at globals c.instances i found in sym old.2 ∙ r.same old.0 old.1 }

  -- other fuel
  pub fuel_runs : (at of fuel : ℕ) (c : Context) → RunsIn program at of c → RunsIn program at of (with_fuel fuel c)
  fuel_runs at of fuel c r = record { fits = fuel_fits c fuel r.fits; begun = r.begun; same = r.same }

  -- an instance that is found
  pub found_fits : (n : ℕ) (c : Context) (i : Instance) → ContextFits program c → instance_of n c ≡ Some i → InstanceFits program c.begun i
  found_fits n c i f found = find_all (InstanceFits program c.begun) (is_instance n) c.instances i f.instances found

  -- the instance with this number, where one is found
  pub found_runs : (number : ℕ) (i : Instance) (c : Context) → ContextFits program c → instance_of number c ≡ Some i → RunsIn program i.number i.monitor c
  found_runs number i c f found = record { fits = f; begun = (found_fits number c i f found).number; same = λ j other. ap (λ (o : Instance). o.monitor) (same_Some j i (sym other ∙ ap (λ n. instance_of n c) (number_is number c.instances i found) ∙ found)) }

module _ (program : Program) (typed : Typed program) (law : ShapesKept) where
  -- ---- effects

  -- a listener that a body makes, with the event expression of its site as it begins
  listens : (at of site : ℕ) (operands captured : List Value) (s : Site) (c : Context) → RunsIn program at of c → slice_get program.sites site ≡ Some s → ListenFits program of operands captured (Some s) → ListenerFits program c.begun c.instances (record { birth = c.births + 1; instance = at; site = site; captured = captured; expression = begun_in (setting_of program.types s operands c.clock) })
  listens at of site operands captured s c r is h = record {
    instance = r.begun;
    site = s;
    there = is;
    captured = h.2;
    expression = law.begins program typed site s is operands c.clock;
    monitor = λ i found. r.same i found ∙ sym h.0;
  }

  -- it begins
  listening_runs : (at of site : ℕ) (operands captured : List Value) (c : Context) → ListenFits program of operands captured (slice_get program.sites site) → RunsIn program at of c → RunsIn program at of (listening program at site operands captured c)
  listening_runs at of site operands captured c h r =
      with_some_both (RunsIn program at of) (slice_get program.sites site) (λ s d. with_listener at site captured (begun_in (setting_of program.types s operands d.clock)) d) c r (λ s is.
      record { fits = listener_fits program at site captured _ c (listens at of site operands captured s c r is (subst (ListenFits program of operands captured) is h)) r.fits; begun = r.begun; same = r.same })

  -- an effect of a body of the instance's monitor; where `ondie` runs no listener begins
  pub apply_runs : (at of : ℕ) (ending : Bool) (e : Effect) (c : Context) → EffectFits program of e → RunsIn program at of c → RunsIn program at of (apply program at ending e c)
  apply_runs at of ending (effect.Print text) c h r = record { fits = line_fits program _ c r.fits; begun = r.begun; same = r.same }
  apply_runs at of ending (effect.Log level text) c h r = record { fits = line_fits program _ c r.fits; begun = r.begun; same = r.same }
  apply_runs at of ending (effect.Listen site operands captured) c h r = cond_both ending c (listening program at site operands captured c) (RunsIn program at of) (λ _. r) (λ _. listening_runs at of site operands captured c h r)
  apply_runs at of ending (effect.Quit birth) c h r = record { fits = filter_fits program _ c r.fits; begun = r.begun; same = r.same }
  apply_runs at of ending (effect.Route event) c h r = record { fits = row_fits program (waiting.Event event) c h r.fits; begun = r.begun; same = r.same }
  apply_runs at of ending other c h r = r

  -- all of them
  pub apply_all_runs : (at of : ℕ) (ending : Bool) (es : List Effect) (c : Context) → All (EffectFits program of) es → RunsIn program at of c → RunsIn program at of (apply_all program at ending es c)
  apply_all_runs at of ending [] c h r = r
  apply_all_runs at of ending (e ∷ es) c h r = apply_all_runs at of ending es (apply program at ending e c) (All-tail (EffectFits program of) e es h) (apply_runs at of ending e c (All-head (EffectFits program of) e es h) r)

  -- ---- runs

  -- what a run came to
  pub act_runs : (at of : ℕ) (ending : Bool) (act : Act) (c : Context) → ActFits program of act → RunsIn program at of c → RunsIn program at of (with_act program at ending act c)
  act_runs at of ending act c h r = apply_all_runs at of ending act.effects (with_globals at act.globals (with_fuel act.scene.fuel c)) h.1 (globals_run program at of act.globals (with_fuel act.scene.fuel c) h.0 (fuel_runs program at of act.scene.fuel c r))

  -- what a body comes to
  pub act_fits : (body : ℕ) (head : Head) → head_of program body ≡ Some head → (globals locals : List Value) → GlobalsFit program head.monitor globals → AllFit program.types locals head.params → (scene : Scene) (draws : List ℕ) → ActFits program head.monitor (act_of program body globals locals scene draws)
  act_fits body head is globals locals g l scene draws = come_fits program head.monitor _ (law.runs program typed body head is globals locals g l scene draws)

  -- what a body that may run in an instance comes to there
  pub act_in_fits : (ending : Bool) (body : ℕ) (locals : List Value) (number : ℕ) (i : Instance) (c : Context) → ContextFits program c → instance_of number c ≡ Some i → MayRun program body locals i → ActFits program i.monitor (act_in program ending body locals i c)
  act_in_fits ending body locals number i c f found may = subst (λ m. ActFits program m (act_in program ending body locals i c)) may.same (act_fits body may.head may.is i.globals locals (subst (λ m. GlobalsFit program m i.globals) (sym may.same) (found_fits program number c i f found).globals) may.locals_fit (scene_of ending c) [])

  -- a run of a body in an instance, and what is known of the instance behind it
  pub run_runs : (ending : Bool) (body : ℕ) (locals : List Value) (number : ℕ) (i : Instance) (c : Context) → ContextFits program c → instance_of number c ≡ Some i → MayRun program body locals i → RunsIn program i.number i.monitor (with_act program i.number ending (act_in program ending body locals i c) c)
  run_runs ending body locals number i c f found may = act_runs i.number i.monitor ending (act_in program ending body locals i c) c (act_in_fits ending body locals number i c f found may) (found_runs program number i c f found)
