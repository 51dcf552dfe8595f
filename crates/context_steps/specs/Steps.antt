-- What runs of bodies ask of the context that they run in, and what they come to.
use Rattle.context_steps.specs.Common.{ℕ, List, [], Some, slice_get, Value, Program, Site, Context, Listener, ContextFits}
use Rattle.std.specs.Prelude.{◌≡◌, ◌-◌, ◌+◌, ◌<◌, ◌≤◌, ◌^◌, Bool, Option, None, map, pos}
use Rattle.epl_values.specs.declared.value.Value.TheVariants as value
use Rattle.typed_program.specs.declared.program.Monitor.{Monitor}
use Rattle.value_shapes.specs.Fits.{AllFit}
use Rattle.typed_runs.specs.Bodies.{GlobalsFit}
use Rattle.action_host.specs.declared.host.End.{End}
use Rattle.action_host.specs.Scenes.{Scene}
use Rattle.action_host.specs.Told.{Told}
use Rattle.record_book.specs.declared.cargo.Cargo.{Cargo}
use Rattle.record_book.specs.Fits.{CargoFits, IsTime}
use Rattle.term_meaning.specs.declared.stimulus.Binding.{Binding}
use Rattle.term_meaning.specs.declared.stimulus.Stimulus.{Stimulus}
use Rattle.term_meaning.specs.declared.stimulus.Stimulus.TheVariants as stimulus
use Rattle.term_meaning.specs.UnderWay.{left_of}
use Rattle.term_shapes.specs.Kept.{CompletionFits, CompletionsFit, HeardFits}
use Rattle.context_meaning.specs.declared.context.Instance.{Instance}
use Rattle.context_meaning.specs.declared.context.Waiting.{Waiting}
use Rattle.context_meaning.specs.Contexts.{instance_of, listener_of, with_expression, with_instance}
use Rattle.context_meaning.specs.Ends.{act_in, with_act, ran}
use Rattle.context_meaning.specs.Listeners.{callback_locals}
use Rattle.context_meaning.specs.Turns.{Turned, body_number, called_live, step_at, stepped_born}
use Rattle.context_meaning.specs.Handling.{cargo_handled, defaults_in, settled, thing_handled}
use Rattle.context_meaning.specs.Fits.{MayRun, WaitingFits}
use Rattle.context_steps.specs.declared.ends.Ran.{Ran}

-- ---- what may run

-- an instance with this number and monitor
abbrev pub numbered : ℕ → ℕ → Instance
numbered number monitor = record { number = number; monitor = monitor; globals = [] }

-- the `ondie` of a monitor that may be there
abbrev pub ondie_in : Option Monitor → Option ℕ
ondie_in None = None
ondie_in (Some m) = m.ondie

abbrev pub ondie_of : Program → ℕ → Option ℕ
ondie_of program monitor = ondie_in (slice_get program.monitors monitor)

-- a body that may run in an instance with these locals, over the globals that it has
pub record CanRun (program : Program) (body : ℕ) (locals : List Value) (begun : ℕ) (i : Instance) : Type 0 where
  pub may : MayRun program body locals i
  pub globals : GlobalsFit program i.monitor i.globals
  pub number : i.number ≤ begun

-- a body may run in the instance with this number, where it is there
abbrev pub CanRunIn : Program → ℕ → ℕ → List Value → Context → Type 0
CanRunIn program number body locals c = (i : Instance) → instance_of number c ≡ Some i → CanRun program body locals c.begun i

-- the instance with this number, where it is there, is one of this monitor, and its globals have their shapes
abbrev pub Stands : Program → ℕ → ℕ → Context → Type 0
Stands program number monitor c = (i : Instance) → instance_of number c ≡ Some i → (i.monitor ≡ monitor) × GlobalsFit program monitor i.globals × (i.number ≤ c.begun)

-- less fuel than the greatest amount, and a clock that shows a time
pub record InRange (c : Context) : Type 0 where
  pub fuel : c.fuel < 2 ^ 64 - 1
  pub clock : IsTime c.clock

-- a listener of a site that is there, whose callback may run in its instance: it was begun, what is taken along has its shapes, and the instance is one of the site's monitor
pub record CallerFits (program : Program) (l : Listener) (site : Site) (c : Context) : Type 0 where
  pub instance : l.instance ≤ c.begun
  pub there : slice_get program.sites l.site ≡ Some site
  pub captured : AllFit program.types l.captured (map (λ n. n.shape) site.captured)
  pub monitor : (i : Instance) → instance_of l.instance c ≡ Some i → i.monitor ≡ site.monitor

-- the event of a stimulus; 0 for a time
abbrev pub event_in : Stimulus → Value
event_in (stimulus.Event e) = e
event_in (stimulus.Unmatched e) = e
event_in (stimulus.Completed e) = e
event_in (stimulus.Time now) = value.Integer (pos 0)

-- ---- what runs come to

-- what a run of a body in the instance with this number came to
pub record Came (program : Program) (ending : Bool) (number body : ℕ) (locals : List Value) (old new : Context) (monitor : ℕ) (end : End) : Type 0 where
  pub found : Instance
  pub is : instance_of number old ≡ Some found
  pub number_is : found.number ≡ number
  pub monitor_is : found.monitor ≡ monitor
  pub end_is : end ≡ (act_in program ending body locals found old).end
  pub takes : new ≡ with_act program number ending (act_in program ending body locals found old) old
  pub small : InRange new
  pub stands : Stands program number monitor new

-- nothing ran where no instance has this number
abbrev pub CameIn : Program → Bool → ℕ → ℕ → List Value → Context → Context → Option Ran → Type 0
CameIn program ending number body locals old new None = (instance_of number old ≡ None) × (new ≡ old)
CameIn program ending number body locals old new (Some r) = Came program ending number body locals old new r.monitor r.end

-- what a host tells before a run
abbrev pub told_first : Scene → Told
told_first scene = record { scene = scene; taken = []; drawn = [] }

-- an instance of a monitor begins, and its `onload` runs
abbrev pub begun_with : Program → ℕ → Monitor → Context → Context
begun_with program n m c = ran program (c.begun + 1) m.onload [] (with_instance n (defaults_in program m) c)

-- what is left fits, has an empty row, and comes to what the handling of an entry comes to
pub record SettlesAs (program : Program) (load : Cargo) (old new : Context) : Type 0 where
  pub same : settled program new ≡ settled program (cargo_handled program load old)
  pub row : new.row ≡ []
  pub fits : ContextFits program new

-- ---- what naive evaluation keeps

-- what naive evaluation of a typed program keeps of its contexts, and which bodies may run in them
pub record Keeps (program : Program) : Type 0 where
  pub ondie : (i : Instance) (body : ℕ) → ondie_of program i.monitor ≡ Some body → MayRun program body [] i
  pub begun : (n : ℕ) (m : Monitor) (c : Context) → slice_get program.monitors n ≡ Some m → ContextFits program c → ContextFits program (with_instance n (defaults_in program m) c)
  pub onload : (n : ℕ) (m : Monitor) (c : Context) → slice_get program.monitors n ≡ Some m → ContextFits program c → (i : Instance) → instance_of (c.begun + 1) (with_instance n (defaults_in program m) c) ≡ Some i → MayRun program m.onload [] i
  pub callback : (l : Listener) (site : Site) (completion : List Binding) (c : Context) → ContextFits program c → CallerFits program l site c → CompletionFits program.types site.bound completion → (i : Instance) → instance_of l.instance c ≡ Some i → MayRun program (body_number program l.site) (callback_locals program.types site l.captured completion) i
  pub called : (l : Listener) (site : Site) (completion : List Binding) (c : Context) → ContextFits program c → CallerFits program l site c → CompletionFits program.types site.bound completion → ContextFits program (called_live program l site completion c)
  pub caller : (l : Listener) (site : Site) (completion : List Binding) (c : Context) → ContextFits program c → CallerFits program l site c → CompletionFits program.types site.bound completion → CallerFits program l site (called_live program l site completion c)
  pub left : (s : Stimulus) (birth : ℕ) (l : Listener) (site : Site) (c : Context) → ContextFits program c → HeardFits program.types s → listener_of birth c ≡ Some l → slice_get program.sites l.site ≡ Some site → ContextFits program (with_expression birth (left_of l.expression (step_at program c s l site)) c)
  pub completions : (s : Stimulus) (birth : ℕ) (l : Listener) (site : Site) (c : Context) → ContextFits program c → HeardFits program.types s → listener_of birth c ≡ Some l → slice_get program.sites l.site ≡ Some site → CompletionsFit program.types site.bound (step_at program c s l site).completions
  pub stepped : (s : Stimulus) (birth : ℕ) (t : Turned) → ContextFits program t.context → HeardFits program.types s → ContextFits program (stepped_born program s birth t).context
  pub thing : (w : Waiting) (c : Context) → ContextFits program c → WaitingFits program w → ContextFits program (thing_handled program w c)
  pub cargo : (load : Cargo) (c : Context) → ContextFits program c → CargoFits program load → ContextFits program (cargo_handled program load c)
