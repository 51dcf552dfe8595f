-- Contexts of typed programs: instances and listeners have what their monitors and sites say, and what waits in front are events.
use Rattle.context_meaning.specs.Common.{ℕ, List, map, Some, slice_get, length, find, Value, out-Value, Program, Site, Instance, Waiting}
use Rattle.std.specs.Prelude.{◌≡◌, ◌≤◌, ◌<◌}
use Rattle.std.specs.List.{All}
use Rattle.value_shapes.specs.Fits.{AllFit, IsEvent}
use Rattle.typed_runs.specs.Bodies.{Head, head_of, GlobalsFit}
use Rattle.context_meaning.specs.declared.context.Waiting.TheVariants as waiting
use Rattle.record_book.specs.Fits.{IsTime}
use Rattle.term_shapes.specs.Kept.{ExpressionFits}
use Rattle.context_meaning.specs.Contexts.{Context, is_instance}
use Rattle.context_meaning.specs.Listeners.{Listener}

-- an instance that was begun, of a monitor that is there, whose globals have their shapes
pub record InstanceFits (program : Program) (begun : ℕ) (i : Instance) : Type 0 where
  pub number : i.number ≤ begun
  pub monitor : i.monitor < length program.monitors
  pub globals : GlobalsFit program i.monitor i.globals

-- a listener of a site that is there, with what its callback takes along and an event expression of that site; the instance with its number is one of the site's monitor
pub record ListenerFits (program : Program) (begun : ℕ) (instances : List Instance) (l : Listener) : Type 0 where
  pub instance : l.instance ≤ begun
  pub site : Site
  pub there : slice_get program.sites l.site ≡ Some site
  pub captured : AllFit program.types l.captured (map (λ c. c.shape) site.captured)
  pub expression : ExpressionFits program.types site l.expression.progress
  pub monitor : (i : Instance) → find (is_instance l.instance) instances ≡ Some i → i.monitor ≡ site.monitor

-- what waits carries an event of its type's shapes
abbrev pub WaitingFits : Program → Waiting → Type 0
WaitingFits program (waiting.Event e) = IsEvent program.types e (out-Value e)
WaitingFits program (waiting.Completed e) = IsEvent program.types e (out-Value e)

pub record ContextFits (program : Program) (c : Context) : Type 0 where
  pub clock : IsTime c.clock
  pub instances : All (InstanceFits program c.begun) c.instances
  pub listeners : All (ListenerFits program c.begun c.instances) c.listeners
  pub row : All (WaitingFits program) c.row
  pub front : All (WaitingFits program) c.front

-- a body that is there may run in an instance with these locals: it is one of the instance's monitor
pub record MayRun (program : Program) (body : ℕ) (locals : List Value) (i : Instance) : Type 0 where
  pub head : Head
  pub is : head_of program body ≡ Some head
  pub same : head.monitor ≡ i.monitor
  pub locals_fit : AllFit program.types locals head.params
