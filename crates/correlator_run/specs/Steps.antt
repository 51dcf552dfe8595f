-- What the steps of loading and running tell.
use Rattle.std.specs.Prelude.{◌≡◌, ℕ, ◌≤◌, List, length, map, take, Option, Some, None, slice_get, Result, Ok, Err, IfSome}
use Rattle.outside.specs.Told.{Told}
use Rattle.epl_values.specs.declared.shape.EventShape.{EventShape}
use Rattle.typed_program.specs.declared.program.Program.{Program}
use Rattle.record_book.specs.declared.item.Item.{Item}
use Rattle.record_book.specs.declared.record.Record.{Record}
use Rattle.evt_reader.specs.Files.{AreItems, IsRefusedLine}
use Rattle.program_reader.specs.declared.fault.ProgramFault.{ProgramFault}
use Rattle.program_reader.specs.Programs.{IsProgram, IsCause as IsProgramCause, IsOnlyCause as IsOnlyProgramCause}
use Rattle.run_face.specs.declared.words.RunWords.{RunWords}
use Rattle.run_face.specs.Words.{Named, named_files, settings_of}
use Rattle.correlator_run.specs.declared.refusal.Refusal.{Refusal}
use Rattle.correlator_run.specs.declared.refusal.Refusal.TheVariants as refusal
use Rattle.correlator_run.specs.Inputs.{Files, most_program, wanted_program, AreRead, IsOnlyInput}
use Rattle.correlator_run.specs.Causes.{file_of, name_at, IsCause, IsLonger, status_of}
use Rattle.correlator_run.specs.Promise.{IsRun}

-- what the words name
abbrev pub named_of : RunWords → Named
named_of w = record { events = w.events; programs = w.programs; fuel = w.settings.fuel }

-- the words name these files and settings, or are no command
abbrev pub WordsRead : List (List ℕ) → Result RunWords Refusal → Type 0
WordsRead words (Ok w) = (named_files words ≡ Some (named_of w)) × (w.settings ≡ settings_of (named_of w))
WordsRead words (Err refusal.Words) = named_files words ≡ None
WordsRead words (Err refusal.Memory) = Unit {0}
WordsRead words (Err why) = ⊥

-- the bytes of the file of this name, or why there are none; it is the one begun last
abbrev pub FileRead : Option Files → Option Told → List ℕ → ℕ → Result (List ℕ) Refusal → Type 0
FileRead files begun name most (Ok bytes) = (length bytes ≤ most) × IfSome files (λ fs. fs name ≡ Some bytes)
FileRead files begun name most (Err (refusal.Missing missed)) = (missed ≡ name) × IfSome begun (λ t. t.name ≡ name) × IfSome files (λ fs. fs name ≡ None)
FileRead files begun name most (Err (refusal.Read unread)) = (unread ≡ name) × IfSome begun (λ t. t.name ≡ name)
FileRead files begun name most (Err (refusal.TooLong long)) = (long ≡ name) × IfSome begun (λ t. t.name ≡ name) × IfSome files (λ fs. IsLonger (fs name) most)
FileRead files begun name most (Err refusal.Memory) = Unit {0}
FileRead files begun name most (Err why) = ⊥

-- the first of the program files that isn't read, and why
pub record IsFirstUnread (files : Option Files) (begun : Option Told) (names : List (List ℕ)) (why : Refusal) : Type 0 where
  pub place : ℕ
  pub name : List ℕ
  pub there : slice_get names place ≡ Some name
  pub texts : List (List ℕ)
  pub before : AreRead files (map wanted_program (take place names)) texts
  pub read : FileRead files begun name most_program (Err why)

-- the bytes of all program files, or the first that isn't read
abbrev pub TextsRead : Option Files → Option Told → List (List ℕ) → Result (List (List ℕ)) Refusal → Type 0
TextsRead files begun names (Ok texts) = AreRead files (map wanted_program names) texts
TextsRead files begun names (Err why) = IsFirstUnread files begun names why

-- the refusal of program files for this cause, by the name of the file in which it is
abbrev pub IsRefusal : List (List ℕ) → ProgramFault → Refusal → Type 0
IsRefusal names why (refusal.Program name cause) = (cause ≡ why) × (name_at names (file_of why) ≡ Some name)
IsRefusal names why refusal.Memory = Unit {0}
IsRefusal names why other = ⊥

-- the one program of these texts, or why there is none, which is the only cause
abbrev pub ProgramTold : List (List ℕ) → List (List ℕ) → Result Program Refusal → Type 0
ProgramTold texts names (Ok p) = IsProgram texts p × ((other : Program) → IsProgram texts other → other ≡ p)
ProgramTold texts names (Err (refusal.Program name why)) = (name_at names (file_of why) ≡ Some name) × IsProgramCause texts why × ((p : Program) → IsProgram texts p → ⊥) × IsOnlyProgramCause texts why
ProgramTold texts names (Err refusal.Memory) = Unit {0}
ProgramTold texts names (Err why) = ⊥

-- the only items of these bytes, or the only line that is refused first
abbrev pub ItemsTold : List EventShape → List ℕ → List ℕ → Result (List Item) Refusal → Type 0
ItemsTold types bytes name (Ok items) = AreItems types bytes items × ((others : List Item) → AreItems types bytes others → others ≡ items)
ItemsTold types bytes name (Err (refusal.Events refused line)) =
    (refused ≡ name) × IsRefusedLine types bytes line × ((other : ℕ) → IsRefusedLine types bytes other → other ≡ line) × ((items : List Item) → AreItems types bytes items → ⊥)
ItemsTold types bytes name (Err refusal.Memory) = Unit {0}
ItemsTold types bytes name (Err why) = ⊥

-- words and files give a program and items, or there is a cause of the refusal
abbrev pub Loads : {P : Type 0} → (P → Named × (Program × List Item)) → List (List ℕ) → Option Files → Option Told → Result P Refusal → Type 0
Loads view words files begun (Ok x) = (named_files words ≡ Some (view x).0) × IsOnlyInput files (view x).0 (view x).1.0 (view x).1.1
Loads view words files begun (Err why) = IsCause words files begun why

-- there is the record of a run over a program, or a cause of the refusal
abbrev pub Finishes : {P : Type 0} → (P → Program × Record) → List (List ℕ) → Option Files → Option Told → Result P Refusal → Type 0
Finishes view words files begun (Ok x) = IsRun words files (view x).0 (view x).1
Finishes view words files begun (Err why) = IsCause words files begun why

-- the status of a refusal, and 0 elsewhere
abbrev pub code_of : {P : Type 0} → Result P Refusal → ℕ
code_of (Ok x) = 0
code_of (Err why) = status_of why
