-- Which typed program program files are: their event types, and their monitors with globals and actions, in order of the source.
use Rattle.std.specs.Prelude.{ℕ, ◌+◌, List, [], ◌∷◌, ◌++◌, length, Option, Some, None, slice_get, codes, ◌≡◌}
use Rattle.std.specs.Option.{option_map}
use Rattle.epl_values.specs.declared.shape.EventShape.{EventShape}
use Rattle.epl_values.specs.declared.shape.Field.{Field}
use Rattle.epl_values.specs.declared.shape.Shape.{Shape}
use Rattle.epl_tree.specs.declared.types.TypeExpr.{TypeExpr}
use Rattle.epl_tree.specs.declared.unit.ActionDecl.{ActionDecl}
use Rattle.epl_tree.specs.declared.unit.Declaration.{Declaration}
use Rattle.epl_tree.specs.declared.unit.Declaration.TheVariants as declaration
use Rattle.epl_tree.specs.declared.unit.EventDecl.{EventDecl}
use Rattle.epl_tree.specs.declared.unit.FieldDecl.{FieldDecl}
use Rattle.epl_tree.specs.declared.unit.GlobalDecl.{GlobalDecl}
use Rattle.epl_tree.specs.declared.unit.Member.{Member}
use Rattle.epl_tree.specs.declared.unit.Member.TheVariants as member
use Rattle.epl_tree.specs.declared.unit.MonitorDecl.{MonitorDecl}
use Rattle.epl_tree.specs.declared.unit.Param.{Param}
use Rattle.epl_tree.specs.declared.unit.Unit.{Unit as File}
use Rattle.typed_program.specs.declared.program.Action.{Action}
use Rattle.typed_program.specs.declared.program.Global.{Global}
use Rattle.typed_program.specs.declared.program.Monitor.{Monitor}
use Rattle.typed_program.specs.declared.program.Program.{Program}
use Rattle.typed_program.specs.declared.program.Site.{Site}
use Rattle.typed_program.specs.declared.statement.Variable.TheVariants as variable
use Rattle.name_resolution.specs.Names.{Named, Around, held, place_of}
use Rattle.name_resolution.specs.Types.{TypeIs}
use Rattle.name_resolution.specs.Statements.{Here, MaybeIs, RowIs}

-- ---- the parts of the files

abbrev pub declarations_in : List File → List Declaration
declarations_in [] = []
declarations_in (u ∷ us) = u.declarations ++ declarations_in us

abbrev pub events_in : List Declaration → List EventDecl
events_in [] = []
events_in (declaration.Event e ∷ ds) = e ∷ events_in ds
events_in (declaration.Monitor m ∷ ds) = events_in ds

abbrev pub monitors_in : List Declaration → List MonitorDecl
monitors_in [] = []
monitors_in (declaration.Event e ∷ ds) = monitors_in ds
monitors_in (declaration.Monitor m ∷ ds) = m ∷ monitors_in ds

abbrev pub globals_in : List Member → List GlobalDecl
globals_in [] = []
globals_in (member.Global g ∷ ms) = g ∷ globals_in ms
globals_in (member.Action a ∷ ms) = globals_in ms

abbrev pub actions_in : List Member → List ActionDecl
actions_in [] = []
actions_in (member.Global g ∷ ms) = actions_in ms
actions_in (member.Action a ∷ ms) = a ∷ actions_in ms

abbrev pub names_of : List ActionDecl → List (List ℕ)
names_of [] = []
names_of (a ∷ others) = a.name.text ∷ names_of others

-- ---- event types

pub record FieldIs (types : List EventShape) (d : FieldDecl) (f : Field) : Type 0 where
  pub name : f.name ≡ d.name.text
  pub shape : TypeIs types d.shape f.shape

pub data FieldsAre (types : List EventShape) : List FieldDecl → List Field → Type 0 where
  no_fields : FieldsAre types [] []
  a_field : {d : FieldDecl} {ds : List FieldDecl} {f : Field} {fs : List Field} → FieldIs types d f → FieldsAre types ds fs → FieldsAre types (d ∷ ds) (f ∷ fs)

pub data EventsAre (types : List EventShape) : List EventDecl → List EventShape → Type 0 where
  no_events : EventsAre types [] []
  an_event : {d : EventDecl} {ds : List EventDecl} {t : EventShape} {ts : List EventShape} → t.name ≡ d.name.text → FieldsAre types d.fields t.fields → EventsAre types ds ts → EventsAre types (d ∷ ds) (t ∷ ts)

-- ---- actions

-- the names of the globals, then the parameters, each by its place
abbrev pub global_names : ℕ → List Global → List Named
global_names n [] = []
global_names n (g ∷ gs) = record { name = g.name; meant = record { variable = variable.Global (held n); shape = Some g.shape } } ∷ global_names (n + 1) gs

abbrev pub param_names : ℕ → List Param → List Shape → List Named
param_names n [] shapes = []
param_names n (p ∷ ps) [] = []
param_names n (p ∷ ps) (s ∷ shapes) = record { name = p.name.text; meant = record { variable = variable.Local (held n); shape = Some s } } ∷ param_names (n + 1) ps shapes

pub data ParamsAre (types : List EventShape) : List Param → List Shape → Type 0 where
  no_params : ParamsAre types [] []
  a_param : {p : Param} {ps : List Param} {s : Shape} {ss : List Shape} → TypeIs types p.shape s → ParamsAre types ps ss → ParamsAre types (p ∷ ps) (s ∷ ss)

pub data ResultIs (types : List EventShape) : Option TypeExpr → Option Shape → Type 0 where
  no_result : ResultIs types None None
  a_result : {w : TypeExpr} {s : Shape} → TypeIs types w s → ResultIs types (Some w) (Some s)

-- an action of the monitor with this number and these globals
pub record ActionIs (around : Around) (sites : List Site) (monitor : ℕ) (globals : List Global) (d : ActionDecl) (a : Action) : Type 0 where
  pub own : a.monitor ≡ monitor
  pub params : ParamsAre around.types d.params a.params
  pub result : ResultIs around.types d.result a.result
  pub end : Here
  pub body : RowIs around sites (record { names = global_names 0 globals ++ param_names 0 d.params a.params; next = held (length d.params); locals = [] }) d.body a.body end
  pub locals : a.locals ≡ end.locals

-- actions, of which the first has this number
pub data ActionsAre (around : Around) (program : Program) (monitor : ℕ) (globals : List Global) : ℕ → List ActionDecl → Type 0 where
  no_actions : {n : ℕ} → ActionsAre around program monitor globals n []
  an_action : {n : ℕ} {d : ActionDecl} {ds : List ActionDecl} {a : Action} → slice_get program.actions n ≡ Some a → ActionIs around program.sites monitor globals d a → ActionsAre around program monitor globals (n + 1) ds → ActionsAre around program monitor globals n (d ∷ ds)

-- ---- monitors

-- an initial value sees no variable and no action
pub record GlobalIs (types : List EventShape) (d : GlobalDecl) (g : Global) : Type 0 where
  pub name : g.name ≡ d.name.text
  pub shape : TypeIs types d.shape g.shape
  pub initial : MaybeIs (record { types = types; actions = []; first = 0 }) [] d.initial g.initial

pub data GlobalsAre (types : List EventShape) : List GlobalDecl → List Global → Type 0 where
  no_globals : GlobalsAre types [] []
  a_global : {d : GlobalDecl} {ds : List GlobalDecl} {g : Global} {gs : List Global} → GlobalIs types d g → GlobalsAre types ds gs → GlobalsAre types (d ∷ ds) (g ∷ gs)

-- the number of the action of a name, if it is there; `onload` is, which code 5 says
abbrev pub number_of : ℕ → List (List ℕ) → List ℕ → Option ℕ
number_of first names name = option_map (λ place. held (first + place)) (place_of names name)

abbrev pub or_zero : Option ℕ → ℕ
or_zero None = 0
or_zero (Some n) = n

-- a monitor by its number, and by that of its first action
pub record MonitorIs (program : Program) (number first : ℕ) (d : MonitorDecl) (m : Monitor) : Type 0 where
  pub around : Around
  pub around_is : around ≡ record { types = program.types; actions = names_of (actions_in d.members); first = first }
  pub name : m.name ≡ d.name.text
  pub globals : GlobalsAre program.types (globals_in d.members) m.globals
  pub actions : ActionsAre around program (held number) m.globals first (actions_in d.members)
  pub onload : m.onload ≡ or_zero (number_of first around.actions (codes "onload"))
  pub ondie : m.ondie ≡ number_of first around.actions (codes "ondie")

-- monitors in order, of which the first has this number, and its first action that one
pub data MonitorsAre (program : Program) : ℕ → ℕ → List MonitorDecl → Type 0 where
  no_monitors : {number first : ℕ} → MonitorsAre program number first []
  a_monitor : {number first : ℕ} {d : MonitorDecl} {ds : List MonitorDecl} {m : Monitor} → slice_get program.monitors number ≡ Some m → MonitorIs program number first d m → MonitorsAre program (number + 1) (first + length (actions_in d.members)) ds → MonitorsAre program number first (d ∷ ds)
