-- Why there is no run, and what causes that.
use Rattle.std.specs.Prelude.{◌≡◌, ℕ, ◌<◌, List, ◌∷◌, length, take, Option, Some, None, slice_get, IfSome}
use Rattle.outside.specs.Told.{Told}
use Rattle.typed_program.specs.declared.program.Program.{Program}
use Rattle.record_book.specs.declared.item.Item.{Item}
use Rattle.evt_reader.specs.Files.{AreItems, IsRefusedLine}
use Rattle.program_reader.specs.declared.fault.ProgramFault.{ProgramFault}
use Rattle.program_reader.specs.declared.fault.ProgramFault.TheVariants as fault
use Rattle.program_reader.specs.Programs.{IsProgram, IsCause as IsProgramCause, IsOnlyCause as IsOnlyProgramCause}
use Rattle.run_face.specs.Words.{Named, named_files}
use Rattle.correlator_run.specs.declared.refusal.Refusal.{Refusal}
use Rattle.correlator_run.specs.declared.refusal.Refusal.TheVariants as refusal
use Rattle.correlator_run.specs.Inputs.{Files, Wanted, wanted_of, AreRead}

-- the words are a command, and this is said of what it names
abbrev pub Names : List (List ℕ) → (Named → Type 0) → Type 0
Names words Says = (named : Named) × (named_files words ≡ Some named) × Says named

-- a named file wasn't read: those before it were, it is the one begun last, and where the shelf tells its files this is said
-- of it
pub record IsUnread (files : Option Files) (begun : Option Told) (named : Named) (name : List ℕ) (Says : Option (List ℕ) → ℕ → Type 0) : Type 0 where
  pub place : ℕ
  pub wanted : Wanted
  pub there : slice_get (wanted_of named) place ≡ Some wanted
  pub whose : name ≡ wanted.name
  pub texts : List (List ℕ)
  pub before : AreRead files (take place (wanted_of named)) texts
  pub last : IfSome begun (λ t. t.name ≡ wanted.name)
  pub says : IfSome files (λ fs. Says (fs wanted.name) wanted.most)

-- a file that isn't there
abbrev pub IsMissing : Option (List ℕ) → ℕ → Type 0
IsMissing file most = file ≡ None

-- a file that is there, with more bytes
abbrev pub IsLonger : Option (List ℕ) → ℕ → Type 0
IsLonger file most = (bytes : List ℕ) × (file ≡ Some bytes) × (most < length bytes)

-- any file: a failed read is no matter of what it holds
abbrev pub IsAny : Option (List ℕ) → ℕ → Type 0
IsAny file most = Unit {0}

-- the place of the program file in which a fault is; want of memory is in none
abbrev pub file_of : ProgramFault → Option ℕ
file_of (fault.Lex file spot) = Some file
file_of (fault.Syntax file spot) = Some file
file_of (fault.Typing code file spot) = Some file
file_of (fault.Unbuilt file spot) = Some file
file_of fault.Memory = None

-- the name at a place
abbrev pub name_at : List (List ℕ) → Option ℕ → Option (List ℕ)
name_at names None = None
name_at names (Some place) = slice_get names place

-- all files were read, and the program files have no program, for this cause alone, in the file of this name
pub record HasNoProgram (files : Option Files) (named : Named) (name : List ℕ) (why : ProgramFault) : Type 0 where
  pub events : List ℕ
  pub texts : List (List ℕ)
  pub read : AreRead files (wanted_of named) (events ∷ texts)
  pub whose : name_at named.programs (file_of why) ≡ Some name
  pub cause : IsProgramCause texts why
  pub only_cause : IsOnlyProgramCause texts why
  pub none : (p : Program) → IsProgram texts p → ⊥

-- all files were read, this is the only program, and the event file has this line as the only one that is refused first
pub record HasNoItems (files : Option Files) (named : Named) (name : List ℕ) (line : ℕ) : Type 0 where
  pub events : List ℕ
  pub texts : List (List ℕ)
  pub read : AreRead files (wanted_of named) (events ∷ texts)
  pub whose : name ≡ named.events
  pub program : Program
  pub is_program : IsProgram texts program
  pub only_program : (other : Program) → IsProgram texts other → other ≡ program
  pub refused : IsRefusedLine program.types events line
  pub only_line : (other : ℕ) → IsRefusedLine program.types events other → other ≡ line
  pub none : (items : List Item) → AreItems program.types events items → ⊥

-- what causes a refusal; want of memory is free
abbrev pub IsCause : List (List ℕ) → Option Files → Option Told → Refusal → Type 0
IsCause words files begun refusal.Words = named_files words ≡ None
IsCause words files begun (refusal.Missing name) = Names words (λ named. IsUnread files begun named name IsMissing)
IsCause words files begun (refusal.Read name) = Names words (λ named. IsUnread files begun named name IsAny)
IsCause words files begun (refusal.TooLong name) = Names words (λ named. IsUnread files begun named name IsLonger)
IsCause words files begun (refusal.Program name why) = Names words (λ named. HasNoProgram files named name why)
IsCause words files begun (refusal.Events name line) = Names words (λ named. HasNoItems files named name line)
IsCause words files begun refusal.Memory = Unit {0}

-- the status of each refusal
abbrev pub status_of : Refusal → ℕ
status_of refusal.Words = 1
status_of (refusal.Missing name) = 8
status_of (refusal.Read name) = 5
status_of (refusal.TooLong name) = 9
status_of (refusal.Program name why) = 2
status_of (refusal.Events name line) = 3
status_of refusal.Memory = 4
