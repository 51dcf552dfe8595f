-- Runs of bodies keep the shapes of variables: initial values, actions and callbacks.
use Rattle.std.specs.Prelude.{if◌then◌else◌}
use Rattle.typed_runs.proofs.Common.{ℕ, zero, suc, Bool, true, false, not, List, [], length, map, Option, Some, None, Ok, refl, sym, ap, subst, ◌∙◌, slice_get, is_some, nat_lt, option_map, list_all, eqb-true, slice_get-map, Shape, Value, Program, Action, Site, TypedExpr, stands, checked, callback_params, Typed, Scene, Frame, Outcome, Went, Ended, M, with_variable, value_of, calls, action_run, Fit, AllFit, fit_nil, default_fits, globals_in, GlobalsFit, FrameFits, OutcomeFits, Keeps}
use Rattle.std.proofs.Common.{◌≡◌, ◌&&◌, ◌==◌, ◌∷◌, ◌+◌, ◌-◌, arith}
use Rattle.std.proofs.lemmas.Option.{same_Some}
use Rattle.typed_program.specs.declared.program.Global.{Global}
use Rattle.typed_program.specs.declared.program.Monitor.{Monitor}
use Rattle.typed_program.specs.declared.statement.Variable.TheVariants as variable
use Rattle.typed_program.specs.Programs.{global_shapes, no_names, initial_so, global_so, is_plain, runs_plain, ends_plain, monitor_so, monitors_so}
use Rattle.body_meaning.specs.Runs.{◌>>◌}
use Rattle.body_meaning.specs.Expressions.{meaning_of}
use Rattle.body_meaning.specs.Acts.{set_global, site_run, initial_by, initials_from, begun_by, run_of, act}
use Rattle.typed_runs.specs.Bodies.{Head, action_head, callback_head, head_of}
use Rattle.typed_runs.specs.Kept.{RunFits}
use Rattle.typed_runs.proofs.Keeping.{Any, keeps_pure, keeps_charge, keeps_bind, keeps_seq, keeps_as, leaves_change}
use Rattle.typed_runs.proofs.Variables.{with_variable_fits}
use Rattle.typed_runs.proofs.Sound.{sound_value, left, right, known_some, told_of}
use Rattle.typed_runs.proofs.Seen.{Seen}
use Rattle.typed_runs.proofs.Exprs.{expr_sound}
use Rattle.typed_runs.proofs.Calling.{action_keeps, site_keeps, calls_keep}

-- ---- initial values

module _ (program : Program) (typed : Typed program) where
  -- an initial value names no variable and no action
  seen_nothing : (monitor : ℕ) → Seen program monitor [] [] [] [] (calls program)
  seen_nothing monitor = record { globals_there = λ n s is. cc; locals_there = λ n s is. cc; actions_there = λ n action is. cc; calls_keep = calls_keep program typed; begins = default_fits program typed }

  module _ (monitor : ℕ) where
    -- a global with another value of its shape
    set_global_fits : (n : ℕ) (s : Shape) (v : Value) (a b : Frame) → slice_get (globals_in program monitor) n ≡ Some s → Fit program.types v s → FrameFits program monitor [] a → set_global n v a ≡ Ok b → FrameFits program monitor [] b
    set_global_fits n s v a b is h f e = let same : with_variable (variable.Global n) v a ≡ b = cc in subst (FrameFits program monitor []) same (with_variable_fits program monitor [] (variable.Global n) s v a f is h)

    -- the initial value of a global, where it has one
    initial_keeps : (n : ℕ) (g : Global) (o : Option TypedExpr) → slice_get (globals_in program monitor) n ≡ Some g.shape → initial_so program monitor g o ≡ true → Keeps program monitor [] Any (initial_by program n o)
    initial_keeps n g None is h = keeps_pure tt tt
    initial_keeps n g (Some e) is h =
        keeps_bind _ (told_of program monitor [] g.shape (checked (no_names program monitor) e) (value_of program.types (calls program) e) (sound_value program monitor [] (checked (no_names program monitor) e) (meaning_of program.types (calls program) e) (expr_sound program monitor [] [] [] [] (calls program) (seen_nothing monitor) e)) h)
        (λ v f. leaves_change (set_global n v) (λ old new k e. set_global_fits n g.shape v old new is f k e))

    -- the globals from a number on
    abbrev From : ℕ → List Global → Type 0
    From n gs = (i : ℕ) (g : Global) → slice_get gs i ≡ Some g → slice_get (globals_in program monitor) (n + i) ≡ Some g.shape

    -- those of the globals from a number on
    initials_keep : (n : ℕ) (gs : List Global) → From n gs → list_all (global_so program monitor) gs ≡ true → Keeps program monitor [] Any (initials_from program n gs)
    initials_keep n [] there h = keeps_pure tt tt
    initials_keep n (g ∷ gs) there h =
        let one = left (global_so program monitor g) (list_all (global_so program monitor) gs) h in
        let first : slice_get (globals_in program monitor) n ≡ Some g.shape = subst (λ k. slice_get (globals_in program monitor) k ≡ Some g.shape) (omega arith) (there zero g refl) in
        keeps_seq (initial_keeps n g g.initial first (right (stands program.types g.shape) (initial_so program monitor g g.initial) one))
        (initials_keep (suc n) gs (λ i x is. subst (λ k. slice_get (globals_in program monitor) k ≡ Some x.shape) (omega arith) (there (suc i) x is)) (right (global_so program monitor g) (list_all (global_so program monitor) gs) h))

  -- ---- the monitor whose `onload` a body is

  -- an action that is plain in a monitor is one of it
  plain_of : (monitor : ℕ) (params : List Shape) (action : Action) → is_plain monitor params action ≡ true → action.monitor ≡ monitor
  plain_of monitor [] action h = eqb-true action.monitor monitor (left (action.monitor == monitor) (not (is_some action.result)) h)
  plain_of monitor (s ∷ ss) action h = cc

  -- the monitor of an action that is plain in one
  plain_monitor : (number body : ℕ) (action : Action) → slice_get program.actions body ≡ Some action → runs_plain program number body ≡ true → action.monitor ≡ number
  plain_monitor number body action is h =
      let known = known_some (λ (a : Action). is_plain number a.params a) (slice_get program.actions body) h in
      let same : known.0 ≡ action = same_Some known.0 action (sym known.1 ∙ is) in
      subst (λ (a : Action). a.monitor ≡ number) same (plain_of number known.0.params known.0 known.2)

  -- the globals of a monitor are its globals from the first one on
  globals_from : (number : ℕ) (m : Monitor) → slice_get program.monitors number ≡ Some m → From number 0 m.globals
  globals_from number m is i g at =
      ap (λ (o : Option Monitor). slice_get (global_shapes o) (0 + i)) is
      ∙ ap (slice_get (map (λ (x : Global). x.shape) m.globals)) (omega arith)
      ∙ slice_get-map (λ (x : Global). x.shape) m.globals i ∙ ap (option_map (λ (x : Global). x.shape)) at

  module _ (body : ℕ) (action : Action) (is : slice_get program.actions body ≡ Some action) where
    -- the initial values of a monitor, if the body is its `onload`
    chosen_keeps : (number : ℕ) (m : Monitor) (rest : List Global) (b : Bool) → (m.onload == body) ≡ b → slice_get program.monitors number ≡ Some m → monitor_so program number m ≡ true → Keeps program action.monitor [] Any (initials_from program 0 rest) → Keeps program action.monitor [] Any (initials_from program 0 (if b then m.globals else rest))
    chosen_keeps number m rest false eq there so k = k
    chosen_keeps number m rest true eq there so k =
        let front = left (list_all (global_so program number) m.globals && runs_plain program number m.onload) (ends_plain program number m.ondie) so in
        let plain = right (list_all (global_so program number) m.globals) (runs_plain program number m.onload) front in
        let own = plain_monitor number body action is (subst (λ n. runs_plain program number n ≡ true) (eqb-true m.onload body eq) plain) in
        subst (λ n. Keeps program n [] Any (initials_from program 0 m.globals)) (sym own) (initials_keep number 0 m.globals (globals_from number m there) (left (list_all (global_so program number) m.globals) (runs_plain program number m.onload) front))

    -- the initial values of the monitor whose `onload` the body is
    begun_keeps : (number : ℕ) (ms : List Monitor) → ((i : ℕ) (m : Monitor) → slice_get ms i ≡ Some m → slice_get program.monitors (number + i) ≡ Some m) → monitors_so program number ms ≡ true → Keeps program action.monitor [] Any (initials_from program 0 (begun_by program body ms))
    begun_keeps number [] there so = keeps_pure tt tt
    begun_keeps number (m ∷ ms) there so =
        let here : slice_get program.monitors number ≡ Some m = subst (λ k. slice_get program.monitors k ≡ Some m) (omega arith) (there zero m refl) in
        chosen_keeps number m (begun_by program body ms) (m.onload == body) refl here (left (monitor_so program number m) (monitors_so program (1 + number) ms) so)
        (begun_keeps (1 + number) ms (λ i x at. subst (λ k. slice_get program.monitors k ≡ Some x) (omega arith) (there (suc i) x at)) (right (monitor_so program number m) (monitors_so program (1 + number) ms) so))

    -- an action, behind the initial values where it is an `onload`
    action_run_keeps : (locals : List Value) → AllFit program.types locals action.params → Keeps program action.monitor [] Any (initials_from program 0 (begun_by program body program.monitors) >> action_run program (calls program) (slice_get program.actions body) locals)
    action_run_keeps locals fit =
        keeps_seq (begun_keeps 0 program.monitors (λ i m at. subst (λ k. slice_get program.monitors k ≡ Some m) (omega arith) at) typed.shapes.monitors)
        (subst (λ (o : Option Action). Keeps program action.monitor [] Any (action_run program (calls program) o locals)) (sym is) (keeps_as (λ o h. tt) (action_keeps program typed (calls program) (calls_keep program typed) [] body action locals is fit)))

  -- a callback
  site_run_keeps : (n : ℕ) (site : Site) (locals : List Value) → slice_get program.sites n ≡ Some site → AllFit program.types locals (callback_params site) → Keeps program site.monitor [] Any (site_run program (calls program) (slice_get program.sites n) locals)
  site_run_keeps n site locals is fit = subst (λ (o : Option Site). Keeps program site.monitor [] Any (site_run program (calls program) o locals)) (sym is) (site_keeps program typed (calls program) (calls_keep program typed) [] n site locals is fit)

  -- ---- runs

  -- over locals of the shapes of its parameters a run of a body keeps the globals
  abbrev HeadKeeps : List Value → M (Option Value) → Head → Type 0
  HeadKeeps locals m head = AllFit program.types locals head.params → Keeps program head.monitor [] Any m

  -- the body is an action
  found_action : (body : ℕ) (o : Option Action) (head : Head) (locals : List Value) → slice_get program.actions body ≡ o → option_map action_head o ≡ Some head → HeadKeeps locals (initials_from program 0 (begun_by program body program.monitors) >> action_run program (calls program) (slice_get program.actions body) locals) head
  found_action body None head locals is h = cc
  found_action body (Some action) head locals is h = subst (HeadKeeps locals _) (same_Some (action_head action) head h) (action_run_keeps body action is locals)

  -- the body is a callback
  found_site : (n : ℕ) (o : Option Site) (head : Head) (locals : List Value) → slice_get program.sites n ≡ o → option_map callback_head o ≡ Some head → HeadKeeps locals (site_run program (calls program) (slice_get program.sites n) locals) head
  found_site n None head locals is h = cc
  found_site n (Some site) head locals is h = subst (HeadKeeps locals _) (same_Some (callback_head site) head h) (site_run_keeps n site locals is)

  -- whichever it is
  either_keeps : (b : Bool) (o p : Option Head) (m n : M (Option Value)) (head : Head) (locals : List Value) → (o ≡ Some head → HeadKeeps locals m head) → (p ≡ Some head → HeadKeeps locals n head) → (if b then o else p) ≡ Some head → HeadKeeps locals (if b then m else n) head
  either_keeps true o p m n head locals h k is = h is
  either_keeps false o p m n head locals h k is = k is

  -- a body by its number
  run_keeps : (body : ℕ) (head : Head) (locals : List Value) → head_of program body ≡ Some head → HeadKeeps locals (run_of program body locals) head
  run_keeps body head locals is =
      either_keeps (nat_lt body (length program.actions)) (option_map action_head (slice_get program.actions body)) (option_map callback_head (slice_get program.sites (body - length program.actions))) _ _ head locals
      (found_action body (slice_get program.actions body) head locals refl) (found_site (body - length program.actions) (slice_get program.sites (body - length program.actions)) head locals refl) is

  -- a run behind its charge
  act_keeps : (body : ℕ) (head : Head) (locals : List Value) → head_of program body ≡ Some head → HeadKeeps locals (act program body locals) head
  unfolding act
  act_keeps body head locals is fit = keeps_seq (keeps_charge 1) (run_keeps body head locals is fit)

  -- a whole run that kept its variables
  run_fits : (monitor : ℕ) (o : Outcome (Option Value)) → OutcomeFits program monitor [] Any o → RunFits program monitor o
  run_fits monitor (Went did x s) h = (h.0, h.1.globals)
  run_fits monitor (Ended did why s) h = h

  -- a run of a body, over globals and locals of their shapes
  pub runs_keep : (body : ℕ) (head : Head) → head_of program body ≡ Some head → (globals locals : List Value) → GlobalsFit program head.monitor globals → AllFit program.types locals head.params → (scene : Scene) (draws : List ℕ) → RunFits program head.monitor (act program body locals (record { scene = scene; draws = draws; frame = record { globals = globals; locals = [] } }))
  runs_keep body head is globals locals g l scene draws =
      run_fits head.monitor _ ((act_keeps body head locals is l).from (record { scene = scene; draws = draws; frame = record { globals = globals; locals = [] } }) (record { globals = g; locals = fit_nil program.types }))
