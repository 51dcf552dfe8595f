-- Programs: the faults of event types and monitor heads over the files, then those of the members of each monitor, in order
-- of the source; and the program of files without any.
use Rattle.std.specs.Prelude.{ℕ, ◌+◌, List, [], ◌∷◌, ◌++◌, ◌≡◌, ◌⊎◌, map, Some, Result, Ok, Err}
use Rattle.epl_tree.specs.declared.unit.Declaration.{Declaration}
use Rattle.epl_tree.specs.declared.unit.Declaration.TheVariants as declaration
use Rattle.epl_tree.specs.declared.unit.Unit.{Unit as File}
use Rattle.typed_program.specs.declared.program.Program.{Program}
use Rattle.type_table.specs.declared.fault.CheckFault.{CheckFault}
use Rattle.type_table.specs.declared.fault.CheckFault.TheVariants as fault
use Rattle.type_table.specs.declared.fault.Fault.{Fault}
use Rattle.type_table.specs.declared.fault.Refusal.{Refusal}
use Rattle.type_table.specs.declared.fault.Refusal.TheVariants as refusal
use Rattle.type_table.specs.declared.table.Table.{Table}
use Rattle.type_table.specs.Found.{first_of}
use Rattle.type_table.specs.Gathers.{declarations_faults, IsTable}
use Rattle.stmt_check.specs.declared.made.Made.{Made}
use Rattle.stmt_check.specs.Members.{monitor_read}
use Rattle.stmt_check.specs.Steps.{Reads, ◌>>=◌, pure, done}

abbrev pub in_file : ℕ → List Fault → List CheckFault
in_file file faults = map (λ f. fault.Typing f.code file f.spot) faults

module _ (table : Table) where
  abbrev pub declaration_read : Declaration → Reads Made (Unit {0})
  declaration_read (declaration.Event e) = pure tt
  declaration_read (declaration.Monitor m) = monitor_read table m

  -- the monitors of a file
  abbrev pub declarations_read : List Declaration → Reads Made (Unit {0})
  declarations_read [] = pure tt
  declarations_read (d ∷ ds) = declaration_read d >>= λ _. declarations_read ds

  abbrev pub file_made : File → Made → Made
  file_made u made = (declarations_read u.declarations made).part.state

  -- the faults of the files from this number on, and what is made of them, behind what was made before
  abbrev pub files_faults : ℕ → Made → List File → List CheckFault
  files_faults file made [] = []
  files_faults file made (u ∷ us) = in_file file (declarations_read u.declarations made).faults ++ files_faults (file + 1) (file_made u made) us

  abbrev pub files_made : Made → List File → Made
  files_made made [] = made
  files_made made (u ∷ us) = files_made (file_made u made) us

  abbrev pub nothing_made : Made
  nothing_made = record { monitors = []; globals = []; actions = []; sites = [] }

  abbrev pub members_faults : List File → List CheckFault
  members_faults units = files_faults 0 nothing_made units

  abbrev pub made_of : List File → Made
  made_of units = files_made nothing_made units

-- the program of files whose table this is
abbrev pub program_of : Table → List File → Program
program_of table units = record { types = table.types; monitors = (made_of table units).monitors; actions = (made_of table units).actions; sites = (made_of table units).sites }

-- an answer of a file's members: there is no fault, or it is the first
abbrev pub GoesFile : Table → ℕ → List Declaration → Made → Made → Result (Unit {0}) CheckFault → Type 0
GoesFile table file declared old new (Ok x) = declarations_read table declared old ≡ done x new
GoesFile table file declared old new (Err (fault.Typing code at spot)) = first_of (in_file file (declarations_read table declared old).faults) ≡ Some (fault.Typing code at spot)
GoesFile table file declared old new (Err fault.Memory) = Unit {0}

-- an answer of the files' members is what is made of them exactly where there is no fault, and else the first fault
abbrev pub ReadsFiles : Table → Result Made CheckFault → List File → Type 0
ReadsFiles table (Ok made) units = (members_faults table units ≡ []) × (made_of table units ≡ made)
ReadsFiles table (Err (fault.Typing code file spot)) units = first_of (members_faults table units) ≡ Some (fault.Typing code file spot)
ReadsFiles table (Err fault.Memory) units = Unit {0}

-- a refusal in a file
abbrev pub fault_in : ℕ → Refusal → CheckFault
fault_in file (refusal.Fault f) = fault.Typing f.code file f.spot
fault_in file refusal.Memory = fault.Memory

-- no fault is found, and this is the program
pub record IsProgram (units : List File) (program : Program) : Type 0 where
  pub table : Table
  pub is_table : IsTable units table
  pub declared : declarations_faults units ≡ []
  pub faultless : members_faults table units ≡ []
  pub program_is : program ≡ program_of table units

-- the declarations have no fault, and this is the first one of members
pub record IsFirst (units : List File) (first : CheckFault) : Type 0 where
  pub table : Table
  pub is_table : IsTable units table
  pub declared : declarations_faults units ≡ []
  pub told : first_of (members_faults table units) ≡ Some first

-- the first fault, those of declarations before those of members
abbrev pub IsFault : List File → CheckFault → Type 0
IsFault units first = (first_of (declarations_faults units) ≡ Some first) ⊎ IsFirst units first

-- An answer is the program exactly where there is no fault, and else the first fault; want of memory is free.
abbrev pub Checks : Result Program CheckFault → List File → Type 0
Checks (Ok program) units = IsProgram units program
Checks (Err (fault.Typing code file spot)) units = IsFault units (fault.Typing code file spot)
Checks (Err fault.Memory) units = Unit {0}
