-- Runs of bodies keep a context's fit, with what stands behind their ends.
use Rattle.std.proofs.Common.{◌≡◌}
use Rattle.context_meaning.proofs.Common.{ℕ, List, [], Bool, true, false, not, slice_get, Some, cond_both, All-filter, All-weaker, Value, Program, Typed, End, Instance, Listener, Context, instance_of, is_instance, is_busy, is_its, with_some, without_instance, without_listeners, act_in, come, run_in, last_run, dying, ended, idle, idle_in, finished, ran, fault_line, InstanceFits, ListenerFits, ContextFits, MayRun}
use Rattle.action_host.specs.declared.host.End.TheVariants as end
use Rattle.context_meaning.proofs.Choosing.{unless_both, with_some_both}
use Rattle.context_meaning.proofs.Finding.{find_others, others}
use Rattle.context_meaning.proofs.Running.{RunsIn, ShapesKept, spend_fits, line_fits, filter_fits, found_runs, run_runs}
use Rattle.context_meaning.proofs.Heads.{ondie_may}

module _ (program : Program) where
  -- an instance is gone
  pub without_fits : (number : ℕ) (c : Context) → ContextFits program c → ContextFits program (without_instance number c)
  without_fits number c f = record {
    clock = f.clock;
    instances = All-filter (λ (i : Instance). not (is_instance number i)) (InstanceFits program c.begun) c.instances f.instances;
    listeners = All-weaker (ListenerFits program c.begun c.instances) (ListenerFits program c.begun (others number c.instances)) (λ l h. record { instance = h.instance; site = h.site; there = h.there; captured = h.captured; expression = h.expression; monitor = λ i found. h.monitor i (find_others number l.instance c.instances i found) }) c.listeners f.listeners;
    row = f.row;
    front = f.front;
  }

  -- how a run of `ondie` ends
  pub last_fits : (i : Instance) (e : End) (c : Context) → ContextFits program c → ContextFits program (last_run program i e c)
  last_fits i (end.Done v) c f = f
  last_fits i end.Died c f = f
  last_fits i (end.Failed fault) c f = line_fits program _ c f
  last_fits i end.Spent c f = spend_fits program c f

module _ (program : Program) (typed : Typed program) (law : ShapesKept) where
  -- a run in the instance with this number, where what comes behind its end keeps the fit
  pub run_in_fits : (behind : Instance → End → Context → Context) (ending : Bool) (body : ℕ) (locals : List Value) (number : ℕ) (c : Context) → ContextFits program c → ((i : Instance) → instance_of number c ≡ Some i → MayRun program body locals i) → ((i : Instance) (e : End) (d : Context) → RunsIn program i.number i.monitor d → ContextFits program (behind i e d)) → ContextFits program (run_in program behind ending body locals number c)
  run_in_fits behind ending body locals number c f may k = with_some_both (ContextFits program) (instance_of number c) (λ i d. come program behind ending i (act_in program ending body locals i d) d) c f (λ i found. k i _ _ (run_runs program typed law ending body locals number i c f found (may i found)))

  -- `ondie` of an instance, where its monitor has one
  pub dying_fits : (i : Instance) (c : Context) → ContextFits program c → ((j : Instance) → instance_of i.number c ≡ Some j → j.monitor ≡ i.monitor) → ContextFits program (dying program i c)
  dying_fits i c f same = with_some_both (ContextFits program) (slice_get program.monitors i.monitor) (λ m d. with_some m.ondie (λ body. run_in program (last_run program) true body [] i.number) d) c f (λ m there. with_some_both (ContextFits program) m.ondie (λ body. run_in program (last_run program) true body [] i.number) c f (λ body is. run_in_fits (last_run program) true body [] i.number c f (λ j found. ondie_may program typed i.monitor m body j there is (same j found)) (λ j e d r. last_fits program j e d r.fits)))

  -- an instance ends
  pub ended_fits : (i : Instance) (c : Context) → RunsIn program i.number i.monitor c → ContextFits program (ended program i c)
  ended_fits i c r =
      let alone = without_listeners i.number c in
      let fits = dying_fits i alone (filter_fits program (λ (l : Listener). not (is_its i.number l)) c r.fits) r.same in
      unless_both (ContextFits program) (without_instance i.number) (dying program i alone) fits (without_fits program i.number (dying program i alone) fits)

  -- an instance without a live listener ends
  pub idle_fits : (i : Instance) (c : Context) → RunsIn program i.number i.monitor c → ContextFits program (idle program i c)
  idle_fits i c r = cond_both (is_busy i.number c) c (ended program i c) (ContextFits program) (λ _. r.fits) (λ _. ended_fits i c r)

  -- the same of the instance with this number
  pub idle_in_fits : (number : ℕ) (c : Context) → ContextFits program c → ContextFits program (idle_in program number c)
  idle_in_fits number c f = with_some_both (ContextFits program) (instance_of number c) (idle program) c f (λ i found. idle_fits i c (found_runs program number i c f found))

  -- how a run ends
  pub finished_fits : (i : Instance) (e : End) (c : Context) → RunsIn program i.number i.monitor c → ContextFits program (finished program i e c)
  finished_fits i (end.Done v) c r = idle_fits i c r
  finished_fits i end.Died c r = ended_fits i c r
  finished_fits i (end.Failed fault) c r = ended_fits i (fault_line program i fault c) (record { fits = line_fits program _ c r.fits; begun = r.begun; same = r.same })
  finished_fits i end.Spent c r = spend_fits program c r.fits

  -- a run of a body, and how it ends
  pub ran_fits : (number body : ℕ) (locals : List Value) (c : Context) → ContextFits program c → ((i : Instance) → instance_of number c ≡ Some i → MayRun program body locals i) → ContextFits program (ran program number body locals c)
  ran_fits number body locals c f may = run_in_fits (finished program) false body locals number c f may finished_fits
