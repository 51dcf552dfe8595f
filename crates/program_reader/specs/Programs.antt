-- Programs by the bytes of their files, and why files have none.
use Rattle.std.specs.Prelude.{◌≡◌, ℕ, List, Some, None, Result, Ok, Err}
use Rattle.span_text.specs.declared.spot.Spot.{Spot}
use Rattle.epl_tree.specs.declared.unit.Unit.{Unit as Tree}
use Rattle.epl_syntax.specs.Trees.{AreTrees, IsUnread, IsUnparsed, IsFirstWithout}
use Rattle.type_table.specs.declared.fault.CheckFault.TheVariants as fault
use Rattle.typed_program.specs.declared.program.Program.{Program}
use Rattle.stmt_check.specs.Programs.{IsProgram as IsTyped, IsFault as IsTypingFault}
use Rattle.built_forms.specs.Units.{unbuilt}
use Rattle.program_reader.specs.declared.fault.ProgramFault.{ProgramFault}
use Rattle.program_reader.specs.declared.fault.ProgramFault.TheVariants.{Lex, Syntax, Typing, Unbuilt, Memory}

-- the program of the bytes of files: that of their trees, where it is accepted and built
pub record IsProgram (texts : List (List ℕ)) (p : Program) : Type 0 where
  pub trees : List Tree
  pub are_trees : AreTrees texts trees
  pub typed : IsTyped trees p
  pub built : unbuilt trees ≡ None

-- all files have trees, and this is their first typing fault
pub record IsMistyped (texts : List (List ℕ)) (code file : ℕ) (spot : Spot) : Type 0 where
  pub trees : List Tree
  pub are_trees : AreTrees texts trees
  pub fault : IsTypingFault trees (fault.Typing code file spot)

-- the program is accepted, and this is the first form in it that isn't built
pub record IsUnbuilt (texts : List (List ℕ)) (file : ℕ) (spot : Spot) : Type 0 where
  pub trees : List Tree
  pub are_trees : AreTrees texts trees
  pub program : Program
  pub typed : IsTyped trees program
  pub unbuilt_is : unbuilt trees ≡ Some (file, spot)

-- why there is no program; want of memory is free
abbrev pub IsCause : List (List ℕ) → ProgramFault → Type 0
IsCause texts (Lex file spot) = IsFirstWithout texts file (λ bytes. IsUnread bytes spot)
IsCause texts (Syntax file spot) = IsFirstWithout texts file (λ bytes. IsUnparsed bytes spot)
IsCause texts (Typing code file spot) = IsMistyped texts code file spot
IsCause texts (Unbuilt file spot) = IsUnbuilt texts file spot
IsCause texts Memory = Unit {0}

abbrev pub HasNone : List (List ℕ) → ProgramFault → Type 0
HasNone texts Memory = Unit {0}
HasNone texts why = (q : Program) → IsProgram texts q → ⊥

-- no fault but this one is a cause; want of memory aside
abbrev pub IsOnlyCause : List (List ℕ) → ProgramFault → Type 0
IsOnlyCause texts why = (other : ProgramFault) → (other ≡ Memory → ⊥) → IsCause texts other → other ≡ why

abbrev pub HasOneCause : List (List ℕ) → ProgramFault → Type 0
HasOneCause texts Memory = Unit {0}
HasOneCause texts why = IsOnlyCause texts why

-- what an answer says of the files: the only program of them, or why there is none, which is the only cause
abbrev pub TellsProgram : List (List ℕ) → Result Program ProgramFault → Type 0
TellsProgram texts (Ok p) = IsProgram texts p × ((q : Program) → IsProgram texts q → q ≡ p)
TellsProgram texts (Err why) = IsCause texts why × HasNone texts why × HasOneCause texts why
