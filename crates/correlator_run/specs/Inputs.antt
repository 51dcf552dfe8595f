-- What the words and the files give to a run.
use Rattle.std.specs.Prelude.{◌≡◌, ℕ, ◌≤◌, List, [], ◌∷◌, length, map, Option, Some, IfSome}
use Rattle.typed_program.specs.declared.program.Program.{Program}
use Rattle.record_book.specs.declared.item.Item.{Item}
use Rattle.evt_reader.specs.Files.{AreItems}
use Rattle.program_reader.specs.Programs.{IsProgram}
use Rattle.run_face.specs.Words.{Named}

-- what a shelf has at each name
abbrev pub Files : Type 0
Files = List ℕ → Option (List ℕ)

-- the most bytes of an event file, and of a program file
abbrev pub most_events : ℕ
most_events = 8388608

abbrev pub most_program : ℕ
most_program = 131072

-- a file that is read, and the most bytes that it may have
pub record Wanted : Type 0 where
  pub name : List ℕ
  pub most : ℕ

abbrev pub wanted_program : List ℕ → Wanted
wanted_program name = record { name = name; most = most_program }

-- the files in the order in which they are read: the event file, and then the program files
abbrev pub wanted_of : Named → List Wanted
wanted_of named = (record { name = named.events; most = most_events }) ∷ map wanted_program named.programs

-- the bytes that were read of files, one by one: no more than the file may have, and all that it holds, where the shelf tells
abbrev pub AreRead : Option Files → List Wanted → List (List ℕ) → Type 0
AreRead files [] [] = Unit {0}
AreRead files (w ∷ ws) (bytes ∷ read) = (length bytes ≤ w.most) × IfSome files (λ fs. fs w.name ≡ Some bytes) × AreRead files ws read
AreRead files ws read = ⊥

-- the named files were read, and these are the program of the program files and the items of the event file
pub record IsInput (files : Option Files) (named : Named) (program : Program) (items : List Item) : Type 0 where
  pub events : List ℕ
  pub texts : List (List ℕ)
  pub read : AreRead files (wanted_of named) (events ∷ texts)
  pub is_program : IsProgram texts program
  pub are_items : AreItems program.types events items

-- and they have no other program, and no other items
pub record IsOnlyInput (files : Option Files) (named : Named) (program : Program) (items : List Item) : Type 0 where
  pub input : IsInput files named program items
  pub only_program : (other : Program) → IsProgram input.texts other → other ≡ program
  pub only_items : (others : List Item) → AreItems program.types input.events others → others ≡ items
