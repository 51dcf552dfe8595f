-- The faults of event types and monitor heads in order of the source, and the table of a program without any.
use Rattle.std.specs.Prelude.{ℕ, ◌+◌, min, Bool, true, false, ◌||◌, not, nat_le, nat_lt, List, [], ◌∷◌, ◌++◌, Option, Some, None, Result, Ok, Err, map, length, if◌then◌else◌, ◌≡◌}
use Rattle.std.specs.List.{list_any, sum_by}
use Rattle.std.specs.Str.{bytes_eq}
use Rattle.epl_values.specs.declared.shape.EventShape.{EventShape}
use Rattle.epl_values.specs.declared.shape.Field.{Field}
use Rattle.epl_tree.specs.declared.unit.Unit.{Unit as File}
use Rattle.epl_tree.specs.declared.unit.EventDecl.{EventDecl}
use Rattle.epl_tree.specs.declared.unit.FieldDecl.{FieldDecl}
use Rattle.epl_tree.specs.declared.unit.MonitorDecl.{MonitorDecl}
use Rattle.epl_tree.specs.declared.unit.Declaration.{Declaration}
use Rattle.epl_tree.specs.declared.unit.Declaration.TheVariants as declaration
use Rattle.type_table.specs.declared.fault.Fault.{Fault}
use Rattle.type_table.specs.declared.fault.CheckFault.{CheckFault}
use Rattle.type_table.specs.declared.fault.CheckFault.TheVariants as fault
use Rattle.type_table.specs.declared.gathered.Gathered.{Gathered}
use Rattle.type_table.specs.declared.table.MonitorHead.{MonitorHead}
use Rattle.type_table.specs.declared.table.Table.{Table}
use Rattle.type_table.specs.Found.{told, first_of}
use Rattle.type_table.specs.Names.{number_in, has_name}
use Rattle.type_table.specs.Types.{type_by}
use Rattle.type_table.specs.Kinds.{names_of, kinds_of}
use Rattle.type_table.specs.Chains.{holds, contains_itself, field_count, whole_width}
use Rattle.type_table.specs.Heads.{monitor_head, actions_from, has_onload}

-- a fault with the number of its file
abbrev pub in_file : ℕ → Fault → CheckFault
in_file file f = fault.Typing f.code file f.spot

-- a code where there is cause for it
abbrev pub when : Bool → ℕ → List ℕ
when true code = code ∷ []
when false code = []

abbrev pub numbers : List EventDecl → List ℕ → Option ℕ
numbers kinds = number_in (names_of kinds)

-- what is gathered with an event type more
abbrev pub with_event : Gathered → List ℕ → Gathered
with_event before name = record { names = before.names ++ name ∷ []; events = before.events + 1; actions = before.actions; monitors = before.monitors }

-- what is gathered with a monitor more, in a file; actions past 65,535 count as that
abbrev pub with_monitor : (List ℕ → Option ℕ) → ℕ → Gathered → MonitorDecl → Gathered
with_monitor number_of file before m = record { names = before.names ++ m.name.text ∷ []; events = before.events; actions = min 65535 (before.actions + length (actions_from number_of before.actions m.members)); monitors = before.monitors ++ monitor_head number_of file before.actions m ∷ [] }

-- whether a field of this name is among these
abbrev pub is_named : List ℕ → List FieldDecl → Bool
is_named name = list_any (λ f. bytes_eq f.name.text name)

module _ (kinds : List EventDecl) where
  -- the fields that fields count for, nested ones counted through
  abbrev pub count_of : List FieldDecl → ℕ
  count_of = sum_by (λ f. field_count (whole_width kinds) f.shape)

  -- a field behind others of its event type: its type, then its name, at which it is also told that its type holds a context
  -- or a listener
  abbrev pub field_faults : List FieldDecl → FieldDecl → List Fault
  field_faults before f =
      (type_by (numbers kinds) f.shape).faults
      ++ told f.name.spot (when (is_named f.name.text before) 1 ++ when (holds kinds f.shape) 3 ++ when (nat_le 64 (length before) || nat_lt 256 (count_of (before ++ f ∷ []))) 4)

  abbrev pub fields_faults : List FieldDecl → List FieldDecl → List Fault
  fields_faults before [] = []
  fields_faults before (f ∷ fs) = field_faults before f ++ fields_faults (before ++ f ∷ []) fs

  -- behind what was gathered before: the name, then the fields
  abbrev pub event_faults : Gathered → EventDecl → List Fault
  event_faults before e =
      told e.name.spot (when (has_name before.names e.name.text) 1 ++ when (nat_le 1000 before.events || contains_itself kinds e.name.text) 4)
      ++ fields_faults [] e.fields

  abbrev pub monitor_faults : Gathered → MonitorDecl → List Fault
  monitor_faults before m =
      told m.name.spot (when (has_name before.names m.name.text) 1 ++ when (nat_le 1000 (length before.monitors)) 4 ++ when (not (has_onload m.members)) 5)

  abbrev pub declaration_faults : Gathered → Declaration → List Fault
  declaration_faults before (declaration.Event e) = event_faults before e
  declaration_faults before (declaration.Monitor m) = monitor_faults before m

  -- what is gathered with one declaration more, in a file
  abbrev pub with_declaration : ℕ → Gathered → Declaration → Gathered
  with_declaration file before (declaration.Event e) = with_event before e.name.text
  with_declaration file before (declaration.Monitor m) = with_monitor (numbers kinds) file before m

  -- the faults of declarations of a file, and what is gathered behind them
  abbrev pub faults_from : ℕ → Gathered → List Declaration → List Fault
  faults_from file before [] = []
  faults_from file before (d ∷ ds) = declaration_faults before d ++ faults_from file (with_declaration file before d) ds

  abbrev pub gathered_after : ℕ → Gathered → List Declaration → Gathered
  gathered_after file before [] = before
  gathered_after file before (d ∷ ds) = gathered_after file (with_declaration file before d) ds

  abbrev pub units_faults : ℕ → Gathered → List File → List CheckFault
  units_faults file before [] = []
  units_faults file before (u ∷ us) = map (in_file file) (faults_from file before u.declarations) ++ units_faults (file + 1) (gathered_after file before u.declarations) us

  abbrev pub units_gathered : ℕ → Gathered → List File → Gathered
  units_gathered file before [] = before
  units_gathered file before (u ∷ us) = units_gathered (file + 1) (gathered_after file before u.declarations) us

module _ (number_of : List ℕ → Option ℕ) where
  abbrev pub field_shape : FieldDecl → Field
  field_shape f = record { name = f.name.text; shape = (type_by number_of f.shape).part }

  abbrev pub event_shape : EventDecl → EventShape
  event_shape e = record { name = e.name.text; fields = map field_shape e.fields }

-- nothing is gathered
abbrev pub none_gathered : Gathered
none_gathered = record { names = []; events = 0; actions = 0; monitors = [] }

-- all faults of event types and monitor heads, over the files in order
abbrev pub declarations_faults : List File → List CheckFault
declarations_faults units = units_faults (kinds_of units) 0 none_gathered units

-- a table is that of a program
pub record IsTable (units : List File) (table : Table) : Type 0 where
  pub types : table.types ≡ map (event_shape (numbers (kinds_of units))) (kinds_of units)
  pub monitors : table.monitors ≡ (units_gathered (kinds_of units) 0 none_gathered units).monitors

-- the first fault is told; want of memory is free
abbrev pub IsFirst : CheckFault → List CheckFault → Type 0
IsFirst (fault.Typing code file spot) faults = first_of faults ≡ Some (fault.Typing code file spot)
IsFirst fault.Memory faults = Unit {0}

-- an answer is the table exactly where there is no fault, and else the first fault
abbrev pub Gathers : Result Table CheckFault → List File → Type 0
Gathers (Ok table) units = (declarations_faults units ≡ []) × IsTable units table
Gathers (Err e) units = IsFirst e (declarations_faults units)

-- the same of what is gathered of files with these event types
abbrev pub GathersUnits : List EventDecl → Result Gathered CheckFault → List File → Type 0
GathersUnits kinds (Ok gathered) units = (units_faults kinds 0 none_gathered units ≡ []) × (gathered ≡ units_gathered kinds 0 none_gathered units)
GathersUnits kinds (Err e) units = IsFirst e (units_faults kinds 0 none_gathered units)

-- and of one file behind what was gathered before
abbrev pub GathersFile : List EventDecl → ℕ → Gathered → Result Gathered CheckFault → List Declaration → Type 0
GathersFile kinds file before (Ok gathered) ds = (faults_from kinds file before ds ≡ []) × (gathered ≡ gathered_after kinds file before ds)
GathersFile kinds file before (Err e) ds = IsFirst e (map (in_file file) (faults_from kinds file before ds))
