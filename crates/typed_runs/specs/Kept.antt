-- Runs of typed programs keep the shapes of variables, and their effects carry values of the shapes that they are to have.
use Rattle.typed_runs.specs.Common.{ℕ, List, Option, Some, None, slice_get, Shape, Value, Program, Action, Site, AllFit}
use Rattle.std.specs.Prelude.{◌≡◌, ◌++◌, map}
use Rattle.std.specs.List.{All}
use Rattle.epl_values.specs.declared.value.Value.{out-Value}
use Rattle.typed_program.specs.Expressions.{shape_of}
use Rattle.action_host.specs.declared.host.Effect.{Effect}
use Rattle.action_host.specs.declared.host.Effect.TheVariants as effect
use Rattle.body_meaning.specs.declared.run.Frame.{Frame}
use Rattle.body_meaning.specs.Runs.{State, Did, Outcome, Went, Ended, M}
use Rattle.value_shapes.specs.Fits.{AllMayFit, IsEvent}
use Rattle.typed_runs.specs.Bodies.{globals_in, GlobalsFit}

-- the values that a spawned instance begins with: the arguments of its action, and then the globals of the monitor
abbrev pub SpawnFits : Program → ℕ → List Value → Option Action → Type 0
SpawnFits program monitor values None = ⊥
SpawnFits program monitor values (Some action) = (action.monitor ≡ monitor) × AllFit program.types values (action.params ++ globals_in program monitor)

-- what a listener keeps: the operands of its site, and the values that its callback takes along
abbrev pub ListenFits : Program → ℕ → List Value → List Value → Option Site → Type 0
ListenFits program monitor operands captured None = ⊥
ListenFits program monitor operands captured (Some site) = (site.monitor ≡ monitor) × AllMayFit program.types operands (map shape_of site.operands) × AllFit program.types captured (map (λ c. c.shape) site.captured)

-- an effect of a body of this monitor carries what it is to carry
abbrev pub EffectFits : Program → ℕ → Effect → Type 0
EffectFits program monitor (effect.Route event) = IsEvent program.types event (out-Value event)
EffectFits program monitor (effect.SendTo slot event) = IsEvent program.types event (out-Value event)
EffectFits program monitor (effect.SendChannel channel event) = IsEvent program.types event (out-Value event)
EffectFits program monitor (effect.Spawn n values) = SpawnFits program monitor values (slice_get program.actions n)
EffectFits program monitor (effect.SpawnTo n values slot) = SpawnFits program monitor values (slice_get program.actions n)
EffectFits program monitor (effect.Listen site operands captured) = ListenFits program monitor operands captured (slice_get program.sites site)
EffectFits program monitor e = Unit {0}

-- what a run did: the globals have their shapes behind each change, and the effects carry what they are to carry
pub record DidFit (program : Program) (monitor : ℕ) (did : Did) : Type 0 where
  pub frames : All (λ (f : Frame). GlobalsFit program monitor f.globals) did.frames
  pub effects : All (EffectFits program monitor) did.effects

-- the variables of a body have their shapes: the globals those of its monitor, the locals these
pub record FrameFits (program : Program) (monitor : ℕ) (room : List Shape) (frame : Frame) : Type 0 where
  pub globals : GlobalsFit program monitor frame.globals
  pub locals : AllFit program.types frame.locals room

-- a run that went on left variables of their shapes and gives what is said of its value; one that ended left such globals
abbrev pub OutcomeFits : {A : Type 0} → Program → ℕ → List Shape → (A → Type 0) → Outcome A → Type 0
OutcomeFits program monitor room Q (Went did x s) = DidFit program monitor did × FrameFits program monitor room s.frame × Q x
OutcomeFits program monitor room Q (Ended did why s) = DidFit program monitor did × GlobalsFit program monitor s.frame.globals

-- from locals of some shapes a run leads to locals of other ones, and keeps the globals
pub record Leaves {A : Type 0} (program : Program) (monitor : ℕ) (old new : List Shape) (Q : A → Type 0) (m : M A) : Type 0 where
  pub from : (s : State) → FrameFits program monitor old s.frame → OutcomeFits program monitor new Q (m s)

-- from variables of their shapes a run keeps them
abbrev pub Keeps : {A : Type 0} → Program → ℕ → List Shape → (A → Type 0) → M A → Type 0
Keeps program monitor room Q m = Leaves program monitor room room Q m

-- a whole run keeps the globals of its monitor
abbrev pub RunFits : {A : Type 0} → Program → ℕ → Outcome A → Type 0
RunFits program monitor (Went did x s) = DidFit program monitor did × GlobalsFit program monitor s.frame.globals
RunFits program monitor (Ended did why s) = DidFit program monitor did × GlobalsFit program monitor s.frame.globals
