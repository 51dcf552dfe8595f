-- What naive evaluation of a typed program keeps of its contexts, as the code that handles entries asks for it.
use Rattle.std.proofs.Common.{◌≡◌, ◌+◌, ◌≤◌}
use Rattle.context_meaning.proofs.Common.{ℕ, ℤ, List, [], slice_get, Some, All, Contains, refl, All-contains, Value, out-Value, Program, Monitor, Site, Typed, Cargo, UnderWay, Binding, Stimulus, CompletionFits, CompletionsFit, ExpressionFits, HeardFits, Instance, Listener, Waiting, Context, instance_of, listener_of, row_in_front, with_clock, with_expression, with_instance, Turned, body_number, callback_locals, called_all, called_live, gone, step_at, stepped_born, cargo_handled, defaults_in, event_turns, first_handled, load_handled, one_turn, thing_handled, timed, CargoFits, ContextFits, IsTime, ListenerFits, MayRun, WaitingFits}
use Rattle.value_shapes.specs.Fits.{IsEvent}
use Rattle.context_meaning.proofs.Running.{ShapesKept, clock_fits}
use Rattle.context_meaning.proofs.Changing.{called_live_carries}
use Rattle.context_meaning.proofs.Following.{Follows, SameListener, expression_follows, follows_carries, follows_then, same_live}
use Rattle.context_meaning.proofs.Heads.{callback_may, ondie_may}
use Rattle.context_meaning.proofs.Beginning.{begun_fits, load_fits, may_onload}
use Rattle.context_meaning.proofs.Turning.{Holds, called_all_holds, called_live_holds, expression_fits, gone_fits, live_holds, may_callback, step_fits, stepped_born_fits, turned_fits}
use Rattle.context_meaning.proofs.Handling.{cargo_fits, event_fits, first_fits, row_in_front_fits, thing_fits, timed_fits}

module _ (program : Program) (typed : Typed program) (law : ShapesKept) where
  -- ---- what may run

  -- `ondie` may run in an instance whose monitor has one
  pub kept_ondie : (i : Instance) (m : Monitor) (body : ℕ) → slice_get program.monitors i.monitor ≡ Some m → m.ondie ≡ Some body → MayRun program body [] i
  kept_ondie i m body there is = ondie_may program typed i.monitor m body i there is refl

  -- an instance may begin
  pub kept_begun : (n : ℕ) (m : Monitor) (c : Context) → slice_get program.monitors n ≡ Some m → ContextFits program c → ContextFits program (with_instance n (defaults_in program m) c)
  kept_begun n m c there f = begun_fits program typed law n m c there f

  -- and then its `onload` may run
  pub kept_onload : (n : ℕ) (m : Monitor) (c : Context) → slice_get program.monitors n ≡ Some m → ContextFits program c → (i : Instance) → instance_of (c.begun + 1) (with_instance n (defaults_in program m) c) ≡ Some i → MayRun program m.onload [] i
  kept_onload n m c there f i found = may_onload program typed law n m c there f i found

  -- the callback of a live listener may run with a completion that fits
  pub kept_callback : (l : Listener) (site : Site) (completion : List Binding) (c : Context) → ContextFits program c → Contains c.listeners l → slice_get program.sites l.site ≡ Some site → CompletionFits program.types site.bound completion → (i : Instance) → instance_of l.instance c ≡ Some i → MayRun program (body_number program l.site) (callback_locals program.types site l.captured completion) i
  kept_callback l site completion c f live there fits i found = callback_may program typed c.begun c.instances l site completion i (All-contains (ListenerFits program c.begun c.instances) c.listeners l f.listeners live) there fits found

  -- so may that of a listener that fits, live or not
  pub kept_held_callback : (l : Listener) (site : Site) (completion : List Binding) (c : Context) → Holds program l c → slice_get program.sites l.site ≡ Some site → CompletionFits program.types site.bound completion → (i : Instance) → instance_of l.instance c ≡ Some i → MayRun program (body_number program l.site) (callback_locals program.types site l.captured completion) i
  kept_held_callback l site completion c h there fits i found = may_callback program typed law l site completion i c h there fits found

  -- ---- steps of a listener

  -- a live listener fits
  pub kept_listener : (birth : ℕ) (l : Listener) (c : Context) → ContextFits program c → listener_of birth c ≡ Some l → Holds program l c
  kept_listener birth l c f live = live_holds program birth l c f live

  -- a step's completions fit
  pub kept_completions : (s : Stimulus) (l : Listener) (site : Site) (c : Context) → Holds program l c → slice_get program.sites l.site ≡ Some site → HeardFits program.types s → CompletionsFit program.types site.bound (step_at program c s l site).completions
  kept_completions s l site c h there heard = (step_fits program typed law s l site c heard there h).completions

  -- what a step leaves fits
  pub kept_left : (s : Stimulus) (l : Listener) (site : Site) (c : Context) → Holds program l c → slice_get program.sites l.site ≡ Some site → HeardFits program.types s → ExpressionFits program.types site (step_at program c s l site).left
  kept_left s l site c h there heard = (step_fits program typed law s l site c heard there h).left

  -- a live listener gets an event expression that fits
  pub kept_expression : (birth : ℕ) (l : Listener) (site : Site) (u : UnderWay) (c : Context) → ContextFits program c → listener_of birth c ≡ Some l → slice_get program.sites l.site ≡ Some site → ExpressionFits program.types site u.progress → ContextFits program (with_expression birth u c)
  kept_expression birth l site u c f live there fits = expression_fits program birth l site u c f live there fits

  -- a callback
  pub kept_called : (l : Listener) (site : Site) (completion : List Binding) (c : Context) → Holds program l c → slice_get program.sites l.site ≡ Some site → CompletionFits program.types site.bound completion → Holds program l (called_live program l site completion c)
  kept_called l site completion c h there fits = called_live_holds program typed law l site completion c there fits h

  -- all of them
  pub kept_called_all : (l : Listener) (site : Site) (completions : List (List Binding)) (c : Context) → Holds program l c → slice_get program.sites l.site ≡ Some site → CompletionsFit program.types site.bound completions → Holds program l (called_all program l site completions c)
  kept_called_all l site completions c h there fits = called_all_holds program typed law l site completions c there fits h

  -- a listener goes
  pub kept_gone : (l : Listener) (c : Context) → ContextFits program c → ContextFits program (gone program l c)
  kept_gone l c f = gone_fits program typed law l c f

  -- a listener is stepped
  pub kept_stepped : (s : Stimulus) (birth : ℕ) (t : Turned) → ContextFits program t.context → HeardFits program.types s → ContextFits program (stepped_born program s birth t).context
  kept_stepped s birth t f heard = stepped_born_fits program typed law s birth t heard f

  -- ---- who is there

  -- behind a new event expression
  pub kept_moved : (birth : ℕ) (u : UnderWay) (c : Context) → Follows c (with_expression birth u c)
  kept_moved birth u c = expression_follows birth u c

  -- behind a callback
  pub kept_behind : (l : Listener) (site : Site) (completion : List Binding) (c : Context) → Follows c (called_live program l site completion c)
  kept_behind l site completion c = called_live_carries program Follows (follows_carries program) l site completion c

  -- one behind another
  pub kept_then : (c d e : Context) → Follows c d → Follows d e → Follows c e
  kept_then c d e a b = follows_then c d e a b

  -- the live listener of a birth has the instance, the site and the values of the one that alone had that birth
  pub kept_same : (birth : ℕ) (l m : Listener) (c d : Context) → Follows c d → birth ≤ c.births → ((k : Listener) → Contains c.listeners k → k.birth ≡ birth → k ≡ l) → listener_of birth d ≡ Some m → SameListener l m
  kept_same birth l m c d a born alone live = same_live birth l m c d a born alone live

  -- ---- turns

  -- a turn
  pub kept_turn : (s : Stimulus) (c : Context) → ContextFits program c → HeardFits program.types s → ContextFits program (one_turn program s c)
  kept_turn s c f heard = turned_fits program typed law s c heard f

  -- the turns of an event
  pub kept_event : (e : Value) (c : Context) → ContextFits program c → IsEvent program.types e (out-Value e) → ContextFits program (event_turns program e c)
  kept_event e c f h = event_fits program typed law e c h f

  -- the clock is set
  pub kept_clock : (now : ℤ) (c : Context) → ContextFits program c → IsTime now → ContextFits program (with_clock now c)
  kept_clock now c f time = clock_fits program now c time f

  -- a time
  pub kept_timed : (now : ℤ) (c : Context) → ContextFits program c → IsTime now → ContextFits program (timed program now c)
  kept_timed now c f time = timed_fits program typed law now c time f

  -- ---- handlings

  -- an instance begins, and its `onload` runs
  pub kept_load : (monitor : ℕ) (c : Context) → ContextFits program c → ContextFits program (load_handled program monitor c)
  kept_load monitor c f = load_fits program typed law monitor c f

  -- the row and then marks that fit are put in front
  pub kept_row : (marks : List Waiting) (c : Context) → ContextFits program c → All (WaitingFits program) marks → ContextFits program (row_in_front marks c)
  kept_row marks c f m = row_in_front_fits program marks c m f

  -- a thing is handled
  pub kept_thing : (w : Waiting) (c : Context) → ContextFits program c → WaitingFits program w → ContextFits program (thing_handled program w c)
  kept_thing w c f h = thing_fits program typed law w c h f

  -- what an entry carries is handled
  pub kept_cargo : (load : Cargo) (c : Context) → ContextFits program c → CargoFits program load → ContextFits program (cargo_handled program load c)
  kept_cargo load c f is = cargo_fits program typed law load c is f

  -- the first in front is handled
  pub kept_first : (c : Context) → ContextFits program c → ContextFits program (first_handled program c)
  kept_first c f = first_fits program typed law c f
