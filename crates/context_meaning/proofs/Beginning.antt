-- Instances that begin keep a context's fit, and their `onload` may run in them.
use Rattle.std.proofs.Common.{◌≡◌, ◌+◌, ◌<◌, ◌≤◌, ◌∷◌, ◌++◌}
use Rattle.context_meaning.proofs.Common.{ℕ, List, [], map, length, slice_get, true, Option, Some, ⊎_elim, sym, ap, subst, arith, list_all, and_parts, eqb-true, slice_get_within, All-push, All-weaker, Value, Program, Monitor, Global, stands, ends_plain, runs_plain, Typed, default_of, AllFit, fit_nil, fit_cons, default_fits, GlobalsFit, Instance, Context, behind_charge, instance_of, is_instance, with_fuel, with_instance, with_some, ran, defaults_in, load_handled, InstanceFits, ListenerFits, ContextFits, MayRun}
use Rattle.typed_program.specs.Programs.{global_shapes, global_so, initial_so}
use Rattle.context_meaning.proofs.Choosing.{charge_both, with_some_both}
use Rattle.context_meaning.proofs.Finding.{find_push, number_is}
use Rattle.context_meaning.proofs.Running.{ShapesKept, found_fits, fuel_fits, spend_fits}
use Rattle.context_meaning.proofs.Heads.{monitor_there, onload_may}
use Rattle.context_meaning.proofs.Ending.{ran_fits}

-- a number that was given out is below the next one
later : (n begun : ℕ) → n ≤ begun → n ≤ begun + 1
later n begun h = omega arith

-- and is not that one
too_late : (n begun : ℕ) → n ≤ begun → begun + 1 ≡ n → ⊥
too_late n begun h is = omega arith

module _ (program : Program) where
  -- what stands behind a charge
  pub charge_fits : (amount : ℕ) (go : Context → Context) (c : Context) → ContextFits program c → ((fuel : ℕ) → ContextFits program (go (with_fuel fuel c))) → ContextFits program (behind_charge amount go c)
  charge_fits amount go c f k = charge_both (ContextFits program) amount go c (spend_fits program c f) (λ fuel _. k fuel)

  -- one more instance
  pub instance_fits : (monitor : ℕ) (globals : List Value) (c : Context) → monitor < length program.monitors → GlobalsFit program monitor globals → ContextFits program c → ContextFits program (with_instance monitor globals c)
  instance_fits monitor globals c there g f = record {
    clock = f.clock;
    instances = All-push (InstanceFits program (c.begun + 1)) c.instances (record { number = c.begun + 1; monitor = monitor; globals = globals }) (All-weaker (InstanceFits program c.begun) (InstanceFits program (c.begun + 1)) (λ i h. record { number = later i.number c.begun h.number; monitor = h.monitor; globals = h.globals }) c.instances f.instances) (record { number = omega arith; monitor = there; globals = g });
    listeners = All-weaker (ListenerFits program c.begun c.instances) (ListenerFits program (c.begun + 1) (c.instances ++ (record { number = c.begun + 1; monitor = monitor; globals = globals }) ∷ [])) (λ l h. record { instance = later l.instance c.begun h.instance; site = h.site; there = h.there; captured = h.captured; expression = h.expression; monitor = λ i found. ⊎_elim (h.monitor i) (λ k. absurd (too_late l.instance c.begun h.instance (eqb-true (c.begun + 1) l.instance k.0))) (find_push (is_instance l.instance) c.instances _ i found) }) c.listeners f.listeners;
    row = f.row;
    front = f.front;
  }

  -- it is found under the next number
  pub instance_found : (monitor : ℕ) (globals : List Value) (c : Context) → ContextFits program c → (i : Instance) → instance_of (c.begun + 1) (with_instance monitor globals c) ≡ Some i → i.monitor ≡ monitor
  instance_found monitor globals c f i found = ⊎_elim (λ old. absurd (too_late i.number c.begun (found_fits program (c.begun + 1) c i f old).number (sym (number_is (c.begun + 1) c.instances i old)))) (λ k. ap (λ (j : Instance). j.monitor) (sym k.1)) (find_push (is_instance (c.begun + 1)) c.instances _ i found)

module _ (program : Program) (typed : Typed program) (law : ShapesKept) where
  -- the defaults of globals
  defaults_each : (n : ℕ) (gs : List Global) → list_all (global_so program n) gs ≡ true → AllFit program.types (map (λ (g : Global). default_of program.types g.shape) gs) (map (λ (g : Global). g.shape) gs)
  defaults_each n [] all = fit_nil program.types
  defaults_each n (g ∷ gs) all =
      let so = and_parts (global_so program n g) (list_all (global_so program n) gs) all in
      fit_cons program.types (default_of program.types g.shape) (map (λ (h : Global). default_of program.types h.shape) gs) g.shape (map (λ (h : Global). h.shape) gs)
      (default_fits program typed g.shape (and_parts (stands program.types g.shape) (initial_so program n g g.initial) so.0).0) (defaults_each n gs so.1)

  -- the defaults of a monitor's globals have their shapes
  pub defaults_in_fit : (n : ℕ) (m : Monitor) → slice_get program.monitors n ≡ Some m → GlobalsFit program n (defaults_in program m)
  defaults_in_fit n m there =
      let all = (and_parts _ (runs_plain program n m.onload) (and_parts _ (ends_plain program n m.ondie) (monitor_there program typed n m there)).0).0 in
      subst (λ (o : Option Monitor). AllFit program.types (defaults_in program m) (global_shapes o)) (sym there) (defaults_each n m.globals all)

  -- an instance of a monitor that is there begins
  pub begun_fits : (n : ℕ) (m : Monitor) (c : Context) → slice_get program.monitors n ≡ Some m → ContextFits program c → ContextFits program (with_instance n (defaults_in program m) c)
  begun_fits n m c there f = instance_fits program n (defaults_in program m) c (slice_get_within program.monitors n m there) (defaults_in_fit n m there) f

  -- and its `onload` may run in it
  pub may_onload : (n : ℕ) (m : Monitor) (c : Context) → slice_get program.monitors n ≡ Some m → ContextFits program c → (i : Instance) → instance_of (c.begun + 1) (with_instance n (defaults_in program m) c) ≡ Some i → MayRun program m.onload [] i
  may_onload n m c there f i found = onload_may program typed n m i there (instance_found program n (defaults_in program m) c f i found)

  -- what a monitor that is there begins with
  abbrev begins : ℕ → Monitor → Context → Context
  begins n m d = ran program (d.begun + 1) m.onload [] (with_instance n (defaults_in program m) d)

  -- an instance begins, and its `onload` runs
  pub load_fits : (monitor : ℕ) (c : Context) → ContextFits program c → ContextFits program (load_handled program monitor c)
  load_fits monitor c f =
      charge_fits program 5 (with_some (slice_get program.monitors monitor) (begins monitor)) c f (λ fuel.
      let less = fuel_fits program c fuel f in
      with_some_both (ContextFits program) (slice_get program.monitors monitor) (begins monitor) (with_fuel fuel c) less (λ m there. ran_fits program typed law (c.begun + 1) m.onload [] (with_instance monitor (defaults_in program m) (with_fuel fuel c)) (begun_fits monitor m (with_fuel fuel c) there less) (may_onload monitor m (with_fuel fuel c) there less)))
