-- Calls of actions keep the shapes of variables, however deep they nest.
use Rattle.std.proofs.Common.{◌≡◌, ◌&&◌, ◌||◌, ◌⊎◌, ◌∷◌, ◌++◌}
use Rattle.typed_runs.proofs.Common.{ℕ, zero, suc, Bool, true, false, not, inl, inr, List, [], length, Option, Some, None, Ok, Err, refl, sym, subst, slice_get, is_some, or_cases, Shape, Value, Program, Action, Site, stands, row_holds, callback_params, ends_with_return, Typed, Flow, Next, Broke, Continued, Returned, Frame, M, Calls, body_of, action_run, calls, AllFit, MayFit, fit_append, default_fits, globals_in, FrameFits, Keeps}
use Rattle.typed_program.specs.Terms.{fits_term}
use Rattle.typed_program.specs.Programs.{action_names, action_body, callback_body, all_stand, is_there, action_so, site_so, site_around}
use Rattle.typed_program.specs.Courses.{runs as lawful_runs}
use Rattle.typed_program.specs.Rules.{action_lawful, special_in, params_from}
use Rattle.action_host.specs.declared.host.Fault.TheVariants as fault
use Rattle.body_meaning.specs.Acts.{returned, or_none, with_locals, in_locals, defaults_of, runs, enter}
use Rattle.value_shapes.proofs.Defaults.{defaults_fit}
use Rattle.typed_runs.proofs.Keeping.{Any, keeps_pure, keeps_given, keeps_look, keeps_charge, keeps_bind, keeps_seq, leaves_change}
use Rattle.typed_runs.proofs.Sound.{left, right}
use Rattle.typed_runs.proofs.Seen.{Seen, CallsKeep}
use Rattle.typed_runs.proofs.StmtForms.{FlowFits}
use Rattle.typed_runs.proofs.Stmts.{all_at, body_keeps}
use Rattle.typed_runs.proofs.Flowing.{Gives, IsReturn, gives_any, gives_as, keeps_gives}
use Rattle.typed_runs.proofs.Returning.{body_returns}

-- ---- locals of a body

module _ (program : Program) (monitor : ℕ) where
  -- a frame with other locals
  other_locals : (old new : List Shape) (values : List Value) → AllFit program.types values new → (a b : Frame) → FrameFits program monitor old a → with_locals values a ≡ Ok b → FrameFits program monitor new b
  other_locals old new values fit a b f e = let same : record a { locals = values } ≡ b = cc in subst (FrameFits program monitor new) same (record { globals = f.globals; locals = fit })

  -- statements over locals of their own
  pub keeps_in_locals : (room inner : List Shape) (values : List Value) (Q : Flow → Type 0) (R : Option Value → Type 0) (m : M Flow) → AllFit program.types values inner → Keeps program monitor inner Q m → ((flow : Flow) → Q flow → R (returned flow)) → Keeps program monitor room R (in_locals program values m)
  unfolding in_locals
  keeps_in_locals room inner values Q R m fit k h =
      keeps_bind _ (keeps_look (λ frame. frame.locals) (λ frame f. f.locals)) (λ outer o.
      keeps_bind _ (keeps_seq (leaves_change (with_locals values) (other_locals room inner values fit)) k) (λ flow q.
      keeps_seq (leaves_change (with_locals outer) (other_locals inner room outer o)) (keeps_pure (returned flow) (h flow q))))

-- ---- results

-- a body returns where a result is asked
abbrev pub Answers : Option Shape → Flow → Type 0
Answers result flow = is_some result ≡ true → IsReturn flow

-- what a body returns, or no context where it returns nothing
returned_fits : (program : Program) (result : Option Shape) (flow : Flow) → FlowFits program result flow → Answers result flow → MayFit program.types (or_none (returned flow)) result
returned_fits program None flow q h = tt
returned_fits program (Some s) (Returned (Some v)) q h = q
returned_fits program (Some s) (Returned None) q h = cc
returned_fits program (Some s) Next q h = absurd (h refl)
returned_fits program (Some s) Broke q h = absurd (h refl)
returned_fits program (Some s) Continued q h = absurd (h refl)

-- not both hold
not_both : (b : Bool) → not b ≡ true → b ≡ true → ⊥
not_both true h k = cc
not_both false h k = cc

module _ (program : Program) (typed : Typed program) where
  -- ---- what is known of a body

  -- an action that is there is as it should be
  action_known : (n : ℕ) (action : Action) → slice_get program.actions n ≡ Some action → action_so program action ≡ true
  action_known n action is = all_at (action_so program) program.actions n action typed.shapes.actions is

  -- and keeps the rules
  action_rules : (n : ℕ) (action : Action) → slice_get program.actions n ≡ Some action → action_lawful program action ≡ true
  action_rules n action is = all_at (action_lawful program) program.actions n action typed.rules.actions is

  -- a site that is there is as it should be
  site_known : (n : ℕ) (site : Site) → slice_get program.sites n ≡ Some site → site_so program site ≡ true
  site_known n site is = (typed.sites n site is).shapes

  -- a body names what is there
  seen : (monitor : ℕ) (room : List Shape) (call : Calls) → CallsKeep program call → Seen program monitor room (globals_in program monitor) room program.actions call
  seen monitor room call kept = record { globals_there = λ n s is. is; locals_there = λ n s is. is; actions_there = λ n action is. is; calls_keep = kept; begins = default_fits program typed }

  -- of shapes that stand, those behind the first ones
  any_stands : (xs ys : List Shape) → all_stand program (xs ++ ys) ≡ true → all_stand program ys ≡ true
  any_stands [] ys h = h
  any_stands (x ∷ xs) ys h = any_stands xs ys (right (stands program.types x) (all_stand program (xs ++ ys)) h)

  -- arguments, and then the defaults of the other locals
  begun_fit : (params locals : List Shape) (values : List Value) → all_stand program (params ++ locals) ≡ true → AllFit program.types values params → AllFit program.types (values ++ defaults_of program locals) (params ++ locals)
  begun_fit params locals values h fit = fit_append program.types values (defaults_of program locals) params locals fit (defaults_fit program typed locals (any_stands params locals h))

  -- ---- actions

  -- it returns where a result is asked
  may_answer : (action : Action) (m : M Flow) → (ends_with_return action.body ≡ true → Gives IsReturn m) → ((not (is_some action.result) ≡ true) ⊎ (ends_with_return action.body ≡ true)) → Gives Any m → Gives (Answers action.result) m
  may_answer action m h (inl none) any = gives_as (λ flow a k. absurd (not_both (is_some action.result) none k)) any
  may_answer action m h (inr ends) any = gives_as (λ flow a k. a) (h ends)

  -- an action returns where it has a result
  action_answers : (n : ℕ) (action : Action) (call : Calls) → slice_get program.actions n ≡ Some action → Gives (Answers action.result) (body_of program.types program.sites call action.body)
  action_answers n action call is =
      let lawful = lawful_runs (action_names program action) program.sites (special_in program action.monitor) 0 action.body (params_from 0 action.params) in
      let rules = action_rules n action is in
      may_answer action (body_of program.types program.sites call action.body)
      (λ ends. body_returns (action_names program action) program.sites (special_in program action.monitor) 0 program.types program.sites call action.body (params_from 0 action.params) (left lawful (not (is_some action.result) || ends_with_return action.body) rules) ends)
      (or_cases (not (is_some action.result)) (ends_with_return action.body) (right lawful (not (is_some action.result) || ends_with_return action.body) rules))
      (gives_any _)

  module _ (call : Calls) (kept_calls : CallsKeep program call) where
    -- an action over arguments of the shapes of its parameters
    pub action_keeps : (room : List Shape) (n : ℕ) (action : Action) (values : List Value) → slice_get program.actions n ≡ Some action → AllFit program.types values action.params → Keeps program action.monitor room (λ o. MayFit program.types (or_none o) action.result) (runs program call action.locals action.body values)
    unfolding runs
    action_keeps room n action values is fit =
        let inner = action.params ++ action.locals in
        let known = action_known n action is in
        let front = left (is_there program action.monitor && all_stand program inner) (row_holds (action_body program action) action.body) known in
        let stand = right (is_there program action.monitor) (all_stand program inner) front in
        let holds = right (is_there program action.monitor && all_stand program inner) (row_holds (action_body program action) action.body) known in
        let kept = body_keeps program action.monitor inner call action.result (seen action.monitor inner call kept_calls) stand action.body holds in
        keeps_in_locals program action.monitor room inner (values ++ defaults_of program action.locals) (λ flow. FlowFits program action.result flow × Answers action.result flow) (λ o. MayFit program.types (or_none o) action.result) (body_of program.types program.sites call action.body)
        (begun_fit action.params action.locals values stand fit) (keeps_gives kept (action_answers n action call is)) (λ flow q. returned_fits program action.result flow q.0 q.1)

    -- a callback over values of the shapes of its parameters
    pub site_keeps : (room : List Shape) (n : ℕ) (site : Site) (values : List Value) → slice_get program.sites n ≡ Some site → AllFit program.types values (callback_params site) → Keeps program site.monitor room Any (runs program call site.locals site.body values)
    unfolding runs
    site_keeps room n site values is fit =
        let inner = callback_params site ++ site.locals in
        let known = site_known n site is in
        let front = left (is_there program site.monitor && all_stand program inner && fits_term (site_around program site) site.term) (row_holds (callback_body program site) site.body) known in
        let stand = right (is_there program site.monitor) (all_stand program inner) (left (is_there program site.monitor && all_stand program inner) (fits_term (site_around program site) site.term) front) in
        let holds = right (is_there program site.monitor && all_stand program inner && fits_term (site_around program site) site.term) (row_holds (callback_body program site) site.body) known in
        let kept = body_keeps program site.monitor inner call None (seen site.monitor inner call kept_calls) stand site.body holds in
        keeps_in_locals program site.monitor room inner (values ++ defaults_of program site.locals) (FlowFits program None) Any (body_of program.types program.sites call site.body)
        (begun_fit (callback_params site) site.locals values stand fit) kept (λ flow q. tt)

  -- ---- calls of calls

  -- calls with so many more below them
  enter_keeps : (depth : ℕ) → CallsKeep program (enter program depth)
  unfolding enter
  enter_keeps zero n action is room values fit = keeps_given (Err fault.CallDepth) (λ x h. cc)
  enter_keeps (suc depth) n action is room values fit =
      keeps_bind _ (keeps_seq (keeps_charge 1) (subst (λ (o : Option Action). Keeps program action.monitor room (λ v. MayFit program.types (or_none v) action.result) (action_run program (enter program depth) o values)) (sym is) (action_keeps (enter program depth) (enter_keeps depth) room n action values is fit)))
      (λ v h. keeps_pure (or_none v) h)

  -- all calls
  pub calls_keep : CallsKeep program (calls program)
  calls_keep = enter_keeps 256
