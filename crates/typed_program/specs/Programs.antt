-- Programs whose numbers name something and whose expressions, locals and globals have their shapes.
use Rattle.std.specs.Prelude.{◌+◌, ◌≡◌, ◌&&◌, ◌==◌, ◌∷◌, ◌++◌}
use Rattle.typed_program.specs.Common.{ℕ, Bool, true, false, not, List, [], map, Option, Some, None, is_some, slice_get, list_all, Shape, EventShape}
use Rattle.typed_program.specs.declared.expression.TypedExpr.{TypedExpr}
use Rattle.typed_program.specs.declared.program.Program.{Program}
use Rattle.typed_program.specs.declared.program.Monitor.{Monitor}
use Rattle.typed_program.specs.declared.program.Global.{Global}
use Rattle.typed_program.specs.declared.program.Action.{Action}
use Rattle.typed_program.specs.declared.program.Site.{Site}
use Rattle.typed_program.specs.Shapes.{stands, holds_link}
use Rattle.typed_program.specs.Expressions.{Names, if_known, has, shape_of}
use Rattle.typed_program.specs.Statements.{Body, row_holds}
use Rattle.typed_program.specs.Terms.{Around, fits_term, is_tenths}

-- the globals of a monitor by number
abbrev pub global_shapes : Option Monitor → List Shape
global_shapes None = []
global_shapes (Some m) = map (λ g. g.shape) m.globals

abbrev pub names_in : Program → ℕ → List Shape → Names
names_in program monitor locals = record { types = program.types; globals = global_shapes (slice_get program.monitors monitor); locals = locals; monitor = monitor; actions = program.actions }

-- where nothing is visible
abbrev pub no_names : Program → ℕ → Names
no_names program monitor = record { types = program.types; globals = []; locals = []; monitor = monitor; actions = [] }

-- the body of an action: its parameters, and then its locals
abbrev pub action_names : Program → Action → Names
action_names program action = names_in program action.monitor (action.params ++ action.locals)

abbrev pub action_body : Program → Action → Body
action_body program action = record { names = action_names program action; sites = program.sites; result = action.result }

-- the parameters of a callback: the captured names, and then the bound ones
abbrev pub callback_params : Site → List Shape
callback_params site = map (λ c. c.shape) site.captured ++ map (λ b. b.shape) site.bound

abbrev pub callback_names : Program → Site → Names
callback_names program site = names_in program site.monitor (callback_params site ++ site.locals)

abbrev pub callback_body : Program → Site → Body
callback_body program site = record { names = callback_names program site; sites = program.sites; result = None }

abbrev pub all_stand : Program → List Shape → Bool
all_stand program shapes = list_all (stands program.types) shapes

-- a field holds no context and no listener at any depth
abbrev pub type_so : Program → EventShape → Bool
type_so program event = list_all (λ f. stands program.types f.shape && not (holds_link f.shape)) event.fields

abbrev pub initial_so : Program → ℕ → Global → Option TypedExpr → Bool
initial_so program monitor g None = true
initial_so program monitor g (Some e) = has (no_names program monitor) g.shape e

abbrev pub global_so : Program → ℕ → Global → Bool
global_so program monitor g = stands program.types g.shape && initial_so program monitor g g.initial

-- an action of this monitor that takes nothing and gives nothing
abbrev pub is_plain : ℕ → List Shape → Action → Bool
is_plain monitor [] action = action.monitor == monitor && not (is_some action.result)
is_plain monitor (s ∷ ss) action = false

abbrev pub runs_plain : Program → ℕ → ℕ → Bool
runs_plain program monitor n = if_known (λ a. is_plain monitor a.params a) (slice_get program.actions n)

abbrev pub ends_plain : Program → ℕ → Option ℕ → Bool
ends_plain program monitor None = true
ends_plain program monitor (Some n) = runs_plain program monitor n

abbrev pub monitor_so : Program → ℕ → Monitor → Bool
monitor_so program number m = list_all (global_so program number) m.globals && runs_plain program number m.onload && ends_plain program number m.ondie

-- monitors whose numbers begin with this one
abbrev pub monitors_so : Program → ℕ → List Monitor → Bool
monitors_so program number [] = true
monitors_so program number (m ∷ ms) = monitor_so program number m && monitors_so program (1 + number) ms

abbrev pub is_there : Program → ℕ → Bool
is_there program monitor = is_some (slice_get program.monitors monitor)

abbrev pub action_so : Program → Action → Bool
action_so program action = is_there program action.monitor && all_stand program (action.params ++ action.locals) && row_holds (action_body program action) action.body

abbrev pub site_around : Program → Site → Around
site_around program site = record { types = program.types; operands = map shape_of site.operands; tenths = map is_tenths site.operands; bound = map (λ b. b.shape) site.bound }

-- the callback of a site, and its event expression
abbrev pub site_so : Program → Site → Bool
site_so program site = is_there program site.monitor && all_stand program (callback_params site ++ site.locals) && fits_term (site_around program site) site.term && row_holds (callback_body program site) site.body

pub record HasShapes (program : Program) : Type 0 where
  pub types : list_all (type_so program) program.types ≡ true
  pub monitors : monitors_so program 0 program.monitors ≡ true
  pub actions : list_all (action_so program) program.actions ≡ true
