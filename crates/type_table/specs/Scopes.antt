-- The names that are visible where a body begins, and how a scope grows and shrinks.
use Rattle.std.specs.Prelude.{ℕ, ◌+◌, true, false, List, [], ◌∷◌, ◌++◌, Option, Some, None, is_some, min, take, slice_get, if◌then◌else◌}
use Rattle.std.specs.List.{position}
use Rattle.std.specs.Str.{bytes_eq}
use Rattle.type_table.specs.declared.table.Table.{Table}
use Rattle.type_table.specs.declared.table.MonitorHead.{MonitorHead}
use Rattle.type_table.specs.declared.table.ActionHead.{ActionHead}
use Rattle.type_table.specs.declared.table.GlobalHead.{GlobalHead}
use Rattle.type_table.specs.declared.table.ParamHead.{ParamHead}
use Rattle.type_table.specs.declared.scope.Scope.{Scope}
use Rattle.type_table.specs.declared.scope.Seen.{Seen}
use Rattle.type_table.specs.declared.scope.SeenKind.TheVariants as kind

-- a global by its place among the globals of its monitor
abbrev pub global_seen : ℕ → GlobalHead → Seen
global_seen number g = record { name = g.name; shape = g.shape; kind = kind.Global; number = min 65535 number }

-- a parameter by its place
abbrev pub param_seen : ℕ → ParamHead → Seen
param_seen number p = record { name = p.name; shape = p.shape; kind = kind.Param; number = min 65535 number }

-- the place of a name
abbrev pub place_in : List Seen → List ℕ → Option ℕ
place_in seens name = position (λ s. bytes_eq s.name name) seens

-- the names with that of a global, if it is the first of its name
abbrev pub with_global : List Seen → ℕ → GlobalHead → List Seen
with_global seens number g = if is_some (place_in seens g.name) then seens else seens ++ global_seen number g ∷ []

-- the names with those of globals, whose numbers begin with this one
abbrev pub globals_after : List Seen → ℕ → List GlobalHead → List Seen
globals_after seens number [] = seens
globals_after seens number (g ∷ gs) = globals_after (with_global seens number g) (number + 1) gs

-- parameters, whose numbers begin with this one
abbrev pub params_from : ℕ → List ParamHead → List Seen
params_from number [] = []
params_from number (p ∷ ps) = param_seen number p ∷ params_from (number + 1) ps

-- the globals, the first of each name, and then the parameters
abbrev pub action_names : MonitorHead → Option ActionHead → List Seen
action_names monitor None = []
action_names monitor (Some a) = globals_after [] 0 monitor.globals ++ params_from 0 a.params

abbrev pub start_names : Option MonitorHead → ℕ → List Seen
start_names None action = []
start_names (Some monitor) action = action_names monitor (slice_get monitor.actions action)

-- where the body of an action begins; without one no name and no action is visible
abbrev pub start_of : Table → ℕ → Option ℕ → Scope
start_of table monitor None = record { monitor = monitor; actions = false; names = [] }
start_of table monitor (Some action) = record { monitor = monitor; actions = true; names = start_names (slice_get table.monitors monitor) action }

-- a scope with one name more, the last
abbrev pub with_seen : Scope → Seen → Scope
with_seen scope seen = record { monitor = scope.monitor; actions = scope.actions; names = scope.names ++ seen ∷ [] }

-- a scope with its first names alone
abbrev pub cut_to : Scope → ℕ → Scope
cut_to scope len = record { monitor = scope.monitor; actions = scope.actions; names = take len scope.names }
