-- What each single change of a context carries over, whole runs, turns and handlings carry over.
use Rattle.std.proofs.Common.{◌+◌, ◌-◌, ◌≤◌, ◌∷◌, if◌then◌else◌}
use Rattle.context_meaning.proofs.Common.{ℕ, ℤ, List, [], filter, slice_get, Bool, true, false, Option, Some, None, cond_both, Value, Program, Monitor, Site, End, UnderWay, left_of, Binding, Stepped, Stimulus, Instance, Listener, Waiting, Context, behind_charge, births_in, has_instances, instance_of, is_busy, listener_of, spend, unless_spent, with_clock, with_expression, with_fuel, with_instance, with_line, with_some, without_birth, without_instance, without_listeners, act_in, come, dying, ended, fault_line, finished, idle, idle_in, last_run, ran, run_in, with_act, Turned, at_site, body_number, callback_locals, called, called_all, called_live, gone, left_over, step_at, step_taken, stepped, stepped_born, turn, turned, defaults_in, event_turns, load_handled, met, one_turn, timed, unmatched, where_instances}
use Rattle.action_host.specs.declared.host.End.TheVariants as end
use Rattle.record_book.specs.declared.cargo.Line.{Line}
use Rattle.term_meaning.specs.Step.{is_gone}
use Rattle.term_meaning.specs.declared.stimulus.Stimulus.TheVariants as stimulus
use Rattle.context_meaning.specs.declared.context.Waiting.TheVariants as waiting
use Rattle.context_meaning.proofs.Choosing.{charge_both, unless_both, with_some_both}

-- a relation of a context and a later one that holds of each single change, and of one behind another
pub record Carries (program : Program) (R : Context → Context → Type 0) : Type 0 where
  pub same : (c : Context) → R c c
  pub next : (c d e : Context) → R c d → R d e → R c e
  pub spent : (c : Context) → R c (spend c)
  pub fuel : (fuel : ℕ) (c : Context) → fuel ≤ c.fuel → R c (with_fuel fuel c)
  pub clock : (now : ℤ) (c : Context) → R c (with_clock now c)
  pub line : (l : Line) (c : Context) → R c (with_line l c)
  pub fewer : (p : Listener → Bool) (c : Context) → R c (record c { listeners = filter p c.listeners })
  pub expression : (birth : ℕ) (u : UnderWay) (c : Context) → R c (with_expression birth u c)
  pub begun : (monitor : ℕ) (globals : List Value) (c : Context) → R c (with_instance monitor globals c)
  pub without : (number : ℕ) (c : Context) → R c (without_instance number c)
  pub act : (ending : Bool) (body : ℕ) (locals : List Value) (i : Instance) (c : Context) → R c (with_act program i.number ending (act_in program ending body locals i c) c)

module _ (program : Program) (R : Context → Context → Type 0) (k : Carries program R) where
  -- ---- choices

  -- either of two
  choice_carries : (b : Bool) (c d e : Context) → R c d → R c e → R c (if b then d else e)
  choice_carries b c d e h g = cond_both b d e (R c) (λ _. h) (λ _. g)

  -- what is done with what is there
  some_carries : {A : Type 0} (o : Option A) (go : A → Context → Context) (c : Context) → ((a : A) → R c (go a c)) → R c (with_some o go c)
  some_carries o go c g = with_some_both (R c) o go c (k.same c) (λ a _. g a)

  -- what is done unless the context is spent
  unless_carries : (go : Context → Context) (c : Context) → R c (go c) → R c (unless_spent go c)
  unless_carries go c h = unless_both (R c) go c (k.same c) h

  -- what stands behind a charge
  charge_carries : (amount : ℕ) (go : Context → Context) (c : Context) → ((d : Context) → R d (go d)) → R c (behind_charge amount go c)
  charge_carries amount go c g = charge_both (R c) amount go c (k.spent c) (λ fuel less. k.next c (with_fuel fuel c) (go (with_fuel fuel c)) (k.fuel fuel c less) (g (with_fuel fuel c)))

  -- ---- runs

  -- a run in the instance with this number, and what comes behind its end
  run_in_carries : (behind : Instance → End → Context → Context) (ending : Bool) (body : ℕ) (locals : List Value) (number : ℕ) (c : Context) → ((i : Instance) (e : End) (d : Context) → R d (behind i e d)) → R c (run_in program behind ending body locals number c)
  run_in_carries behind ending body locals number c g =
      some_carries (instance_of number c) (λ i d. come program behind ending i (act_in program ending body locals i d) d) c (λ i.
      let act = act_in program ending body locals i c in
      let run = with_act program i.number ending act c in
      k.next c run (behind i act.end run) (k.act ending body locals i c) (g i act.end run))

  -- how a run of `ondie` ends
  last_carries : (i : Instance) (e : End) (c : Context) → R c (last_run program i e c)
  last_carries i (end.Done v) c = k.same c
  last_carries i end.Died c = k.same c
  last_carries i (end.Failed fault) c = k.line _ c
  last_carries i end.Spent c = k.spent c

  -- `ondie` of an instance, where its monitor has one
  dying_carries : (i : Instance) (c : Context) → R c (dying program i c)
  dying_carries i c = some_carries (slice_get program.monitors i.monitor) (λ m d. with_some m.ondie (λ body. run_in program (last_run program) true body [] i.number) d) c (λ m. some_carries m.ondie (λ body. run_in program (last_run program) true body [] i.number) c (λ body. run_in_carries (last_run program) true body [] i.number c last_carries))

  -- an instance ends
  ended_carries : (i : Instance) (c : Context) → R c (ended program i c)
  ended_carries i c =
      let alone = without_listeners i.number c in
      let left = dying program i alone in
      k.next c alone (ended program i c) (k.fewer _ c) (k.next alone left (ended program i c) (dying_carries i alone) (unless_carries (without_instance i.number) left (k.without i.number left)))

  -- an instance without a live listener ends
  idle_carries : (i : Instance) (c : Context) → R c (idle program i c)
  idle_carries i c = choice_carries (is_busy i.number c) c c (ended program i c) (k.same c) (ended_carries i c)

  -- the same of the instance with this number
  idle_in_carries : (number : ℕ) (c : Context) → R c (idle_in program number c)
  idle_in_carries number c = some_carries (instance_of number c) (idle program) c (λ i. idle_carries i c)

  -- how a run ends
  finished_carries : (i : Instance) (e : End) (c : Context) → R c (finished program i e c)
  finished_carries i (end.Done v) c = idle_carries i c
  finished_carries i end.Died c = ended_carries i c
  finished_carries i (end.Failed fault) c = k.next c (fault_line program i fault c) (ended program i (fault_line program i fault c)) (k.line _ c) (ended_carries i (fault_line program i fault c))
  finished_carries i end.Spent c = k.spent c

  -- a run of a body, and how it ends
  pub ran_carries : (number body : ℕ) (locals : List Value) (c : Context) → R c (ran program number body locals c)
  ran_carries number body locals c = run_in_carries (finished program) false body locals number c finished_carries

  -- ---- a listener that is stepped

  -- its callback runs with a completion
  pub called_carries : (l : Listener) (site : Site) (completion : List Binding) (c : Context) → R c (called program l site completion c)
  called_carries l site completion c = ran_carries l.instance (body_number program l.site) (callback_locals program.types site l.captured completion) c

  -- while it is live
  pub called_live_carries : (l : Listener) (site : Site) (completion : List Binding) (c : Context) → R c (called_live program l site completion c)
  called_live_carries l site completion c = some_carries (listener_of l.birth c) (λ live. called program l site completion) c (λ live. called_carries l site completion c)

  -- for each completion
  pub called_all_carries : (l : Listener) (site : Site) (completions : List (List Binding)) (c : Context) → R c (called_all program l site completions c)
  called_all_carries l site [] c = k.same c
  called_all_carries l site (x ∷ xs) c =
      let first = unless_spent (called_live program l site x) c in
      k.next c first (called_all program l site xs first) (unless_carries (called_live program l site x) c (called_live_carries l site x c)) (called_all_carries l site xs first)

  -- it goes
  pub gone_carries : (l : Listener) (c : Context) → R c (gone program l c)
  gone_carries l c =
      some_carries (listener_of l.birth c) (λ live d. idle_in program l.instance (without_birth l.birth d)) c (λ live.
      let fewer = without_birth l.birth c in
      k.next c fewer (idle_in program l.instance fewer) (k.fewer _ c) (idle_in_carries l.instance fewer))

  -- where it has nothing left
  left_over_carries : (l : Listener) (a : Stepped) (c : Context) → R c (left_over program l a c)
  left_over_carries l a c = choice_carries (is_gone a.left) c (unless_spent (gone program l) c) c (unless_carries (gone program l) c (gone_carries l c)) (k.same c)

  -- what stands behind the charge of a step
  taken_carries : (l : Listener) (site : Site) (a : Stepped) (c : Context) → R c (left_over program l a (called_all program l site a.completions c))
  taken_carries l site a c =
      let run = called_all program l site a.completions c in
      k.next c run (left_over program l a run) (called_all_carries l site a.completions c) (left_over_carries l a run)

  -- what a step comes to
  pub step_taken_carries : (l : Listener) (site : Site) (a : Stepped) (c : Context) → R c (step_taken program l site a c)
  step_taken_carries l site a c =
      let moved = with_expression l.birth (left_of l.expression a) c in
      k.next c moved (step_taken program l site a c) (k.expression l.birth (left_of l.expression a) c) (charge_carries (a.next - l.expression.next) (λ d. left_over program l a (called_all program l site a.completions d)) moved (taken_carries l site a))

  -- ---- turns

  -- a listener whose site may be there
  at_site_carries : (s : Stimulus) (l : Listener) (o : Option Site) (t : Turned) → R t.context (at_site program s l o t).context
  at_site_carries s l None t = k.same t.context
  at_site_carries s l (Some site) t = step_taken_carries l site (step_at program t.context s l site) t.context

  -- a listener that may be live
  stepped_carries : (s : Stimulus) (o : Option Listener) (t : Turned) → R t.context (stepped program s o t).context
  stepped_carries s None t = k.same t.context
  stepped_carries s (Some l) t = at_site_carries s l (slice_get program.sites l.site) t

  -- the listener of a birth
  pub stepped_born_carries : (s : Stimulus) (birth : ℕ) (t : Turned) → R t.context (stepped_born program s birth t).context
  stepped_born_carries s birth t = cond_both t.context.spent t (stepped program s (listener_of birth t.context) t) (λ (u : Turned). R t.context u.context) (λ _. k.same t.context) (λ _. stepped_carries s (listener_of birth t.context) t)

  -- the listeners of these births
  turn_carries : (s : Stimulus) (births : List ℕ) (t : Turned) → R t.context (turn program s births t).context
  turn_carries s [] t = k.same t.context
  turn_carries s (b ∷ bs) t =
      let first = stepped_born program s b t in
      k.next t.context first.context (turn program s bs first).context (stepped_born_carries s b t) (turn_carries s bs first)

  -- a turn with a stimulus
  pub one_turn_carries : (s : Stimulus) (c : Context) → R c (one_turn program s c)
  one_turn_carries s c = turn_carries s (births_in c) (record { context = c; fitted = false })

  -- ---- handlings

  -- unmatched templates where no ordinary one fitted
  unmatched_carries : (e : Value) (t : Turned) → R t.context (unmatched program e t)
  unmatched_carries e t = choice_carries t.fitted t.context t.context (unless_spent (one_turn program (stimulus.Unmatched e)) t.context) (k.same t.context) (unless_carries (one_turn program (stimulus.Unmatched e)) t.context (one_turn_carries (stimulus.Unmatched e) t.context))

  -- an event
  pub event_carries : (e : Value) (c : Context) → R c (event_turns program e c)
  event_carries e c =
      let first = turned program (stimulus.Event e) c in
      k.next c first.context (unmatched program e first) (one_turn_carries (stimulus.Event e) c) (unmatched_carries e first)

  -- where there is an instance
  where_carries : (go : Context → Context) (c : Context) → ((d : Context) → R d (go d)) → R c (where_instances program go c)
  where_carries go c g = choice_carries (has_instances c) c (behind_charge 5 go c) c (charge_carries 5 go c g) (k.same c)

  -- the listeners meet a thing
  pub met_carries : (w : Waiting) (c : Context) → R c (met program w c)
  met_carries (waiting.Event e) c = where_carries (event_turns program e) c (event_carries e)
  met_carries (waiting.Completed e) c = where_carries (one_turn program (stimulus.Completed e)) c (one_turn_carries (stimulus.Completed e))

  -- a turn with a time that sets the clock
  clock_carries : (now : ℤ) (c : Context) → R c (one_turn program (stimulus.Time now) (with_clock now c))
  clock_carries now c = k.next c (with_clock now c) (one_turn program (stimulus.Time now) (with_clock now c)) (k.clock now c) (one_turn_carries (stimulus.Time now) (with_clock now c))

  -- a time
  pub timed_carries : (now : ℤ) (c : Context) → R c (timed program now c)
  timed_carries now c =
      let go : Context → Context = λ d. one_turn program (stimulus.Time now) (with_clock now d) in
      choice_carries (has_instances c) c (behind_charge 5 go c) (with_clock now c) (charge_carries 5 go c (clock_carries now)) (k.clock now c)

  -- an instance of a monitor that is there begins
  abbrev begins : ℕ → Monitor → Context → Context
  begins monitor m d = ran program (d.begun + 1) m.onload [] (with_instance monitor (defaults_in program m) d)

  begins_carries : (monitor : ℕ) (m : Monitor) (c : Context) → R c (begins monitor m c)
  begins_carries monitor m c =
      let more = with_instance monitor (defaults_in program m) c in
      k.next c more (ran program (c.begun + 1) m.onload [] more) (k.begun monitor (defaults_in program m) c) (ran_carries (c.begun + 1) m.onload [] more)

  -- a load
  pub load_carries : (monitor : ℕ) (c : Context) → R c (load_handled program monitor c)
  load_carries monitor c = charge_carries 5 (with_some (slice_get program.monitors monitor) (begins monitor)) c (λ d. some_carries (slice_get program.monitors monitor) (begins monitor) d (λ m. begins_carries monitor m d))
