-- Bodies by their numbers, and the variables that they run over.
use Rattle.typed_runs.specs.Common.{ℕ, List, Option, Some, None, slice_get, Shape, Value, Program, Action, Site, AllFit}
use Rattle.std.specs.Prelude.{◌-◌, nat_lt, if◌then◌else◌, length}
use Rattle.std.specs.Option.{option_map}
use Rattle.typed_program.specs.Programs.{global_shapes, callback_params}

-- the monitor of a body, and its parameters
pub record Head : Type 0 where
  pub monitor : ℕ
  pub params : List Shape

abbrev pub action_head : Action → Head
action_head action = record { monitor = action.monitor; params = action.params }

abbrev pub callback_head : Site → Head
callback_head site = record { monitor = site.monitor; params = callback_params site }

-- a body by its number: the actions, and then the callbacks of the sites
abbrev pub head_of : Program → ℕ → Option Head
head_of program body = if nat_lt body (length program.actions) then option_map action_head (slice_get program.actions body) else option_map callback_head (slice_get program.sites (body - length program.actions))

-- the shapes of the globals of a monitor
abbrev pub globals_in : Program → ℕ → List Shape
globals_in program monitor = global_shapes (slice_get program.monitors monitor)

abbrev pub GlobalsFit : Program → ℕ → List Value → Type 0
GlobalsFit program monitor globals = AllFit program.types globals (globals_in program monitor)

-- the body is there, with globals of the shapes of its monitor, and locals of those of its parameters
abbrev pub HeadFits : Program → List Value → List Value → Option Head → Type 0
HeadFits program globals locals None = ⊥
HeadFits program globals locals (Some head) = GlobalsFit program head.monitor globals × AllFit program.types locals head.params

abbrev pub BodyFits : Program → ℕ → List Value → List Value → Type 0
BodyFits program body globals locals = HeadFits program globals locals (head_of program body)

-- the globals have the shapes of the monitor of a body
abbrev pub StillFit : Program → List Value → Option Head → Type 0
StillFit program globals None = Unit {0}
StillFit program globals (Some head) = GlobalsFit program head.monitor globals
