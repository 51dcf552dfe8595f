-- What the top call promises.
use Rattle.std.specs.Prelude.{◌≡◌, ℕ, ◌<◌, ◌⊎◌, List, [], ◌++◌, length, take, Bool, nat_eq, if◌then◌else◌, Option, Some, None, IfSome}
use Rattle.std.specs.List.{list_any}
use Rattle.std.specs.Option.{option_map}
use Rattle.outside.specs.Counts.{Counts}
use Rattle.outside.specs.Told.{Told, files_of}
use Rattle.typed_program.specs.declared.program.Program.{Program}
use Rattle.record_book.specs.declared.item.Item.{Item}
use Rattle.record_book.specs.declared.record.Record.{Record}
use Rattle.naive_meaning.specs.Faithful.{FaithfulRecord}
use Rattle.naive_meaning.specs.Records.{IsScheduled}
use Rattle.record_book.specs.Report.{report_of}
use Rattle.run_face.specs.Words.{Named, named_files, settings_of}
use Rattle.correlator_run.specs.declared.refusal.Refusal.{Refusal}
use Rattle.correlator_run.specs.Inputs.{Files, IsOnlyInput}
use Rattle.correlator_run.specs.Causes.{IsCause, status_of}

-- what a shelf shows at a moment: its counts of faults and of names missed, and what it tells of its files, if it does
pub record Shown : Type 0 where
  pub faults : ℕ
  pub missed : ℕ
  pub told : Option Told

-- what an output shows at a moment: its count of faults, and the bytes taken and the room, if it tells them
pub record Output : Type 0 where
  pub faults : ℕ
  pub taken : Option (List ℕ)
  pub room : Option ℕ

-- the outside at a moment
pub record Outside : Type 0 where
  pub shelf : Shown
  pub out : Output

-- the record of a run of the one program and the one list of items that the words and the files give: it is faithful to
-- them and to the settings, and it is the one that boot and rounds make
pub record IsRun (words : List (List ℕ)) (files : Option Files) (program : Program) (kept : Record) : Type 0 where
  pub named : Named
  pub is : named_files words ≡ Some named
  pub items : List Item
  pub input : IsOnlyInput files named program items
  pub faithful : FaithfulRecord program items (settings_of named) kept
  pub scheduled : IsScheduled program items (settings_of named) [] kept

-- a context of the record is spent
abbrev pub is_spent : Record → Bool
is_spent kept = list_any (λ c. c.spent) kept.contexts

-- the output took these bytes in the call
abbrev pub Took : List ℕ → Output → Output → Type 0
Took bytes before after = after.taken ≡ option_map (λ t. t ++ bytes) before.taken

-- the write failed: the output took a proper front of the report, and it had no room for all of it
pub record IsCut (report : List ℕ) (before after : Output) : Type 0 where
  pub size : ℕ
  pub proper : size < length report
  pub took : Took (take size report) before after
  pub full : IfSome before.room (λ r. r < length report)

-- the report is written, and the status is 7 where a context is spent and else 0; or the write failed, and it is 6
abbrev pub IsWritten : ℕ → Record → List ℕ → Output → Output → Type 0
IsWritten status kept report before after =
    ((status ≡ (if is_spent kept then 7 else 0)) × Took report before after) ⊎ ((status ≡ 6) × IsCut report before after)

-- with a record there was a run, and its report is written; without one there is a cause with its status, and nothing is written
abbrev pub Answers : List (List ℕ) → Outside → Outside → ℕ → Option Record → Type 0
Answers words before after status (Some kept) =
    (program : Program) × IsRun words (files_of before.shelf.told) program kept × IsWritten status kept (report_of program kept) before.out after.out
Answers words before after status None =
    (why : Refusal) × (status ≡ status_of why) × IsCause words (files_of before.shelf.told) after.shelf.told why × (after.out.taken ≡ before.out.taken)

-- the answer has its cause, and a count of faults or of names missed rises exactly where the status says so
pub record KeepsPromise (words : List (List ℕ)) (before after : Outside) (status : ℕ) (kept : Option Record) : Type 0 where
  pub answer : Answers words before after status kept
  pub read : Counts (nat_eq status 5) before.shelf.faults after.shelf.faults
  pub missed : Counts (nat_eq status 8) before.shelf.missed after.shelf.missed
  pub write : Counts (nat_eq status 6) before.out.faults after.out.faults
