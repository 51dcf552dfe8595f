-- What the steps of reading a program tell.
use Rattle.std.specs.Prelude.{◌≡◌, ℕ, List, Option, None, Some, Result, Ok, Err}
use Rattle.span_text.specs.declared.spot.Spot.{Spot}
use Rattle.epl_tree.specs.declared.unit.Unit.{Unit as Tree}
use Rattle.epl_syntax.specs.Trees.{IsUnread, IsUnparsed, IsFirstWithout, AreOnlyTrees, HaveNoTrees}
use Rattle.type_table.specs.declared.fault.CheckFault.TheVariants as fault
use Rattle.typed_program.specs.declared.program.Program.{Program}
use Rattle.typed_program.specs.Typed.{Typed}
use Rattle.stmt_check.specs.Programs.{IsProgram as IsTyped, IsFault as IsTypingFault}
use Rattle.built_forms.specs.Units.{unbuilt}
use Rattle.program_reader.specs.declared.fault.ProgramFault.{ProgramFault}
use Rattle.program_reader.specs.declared.fault.ProgramFault.TheVariants.{Lex, Syntax, Typing, Unbuilt, Memory}

-- the only trees of files, or the first file without one, and why it has none
abbrev pub TreesRead : List (List ℕ) → Result (List Tree) ProgramFault → Type 0
TreesRead texts (Ok trees) = AreOnlyTrees texts trees
TreesRead texts (Err (Lex file spot)) = IsFirstWithout texts file (λ bytes. IsUnread bytes spot) × HaveNoTrees texts
TreesRead texts (Err (Syntax file spot)) = IsFirstWithout texts file (λ bytes. IsUnparsed bytes spot) × HaveNoTrees texts
TreesRead texts (Err Memory) = Unit {0}
TreesRead texts (Err why) = ⊥

-- the program of trees, where it is accepted and built
abbrev pub ProgramTold : List Tree → Result Program ProgramFault → Type 0
ProgramTold trees (Ok p) = IsTyped trees p × Typed p × (unbuilt trees ≡ None)
ProgramTold trees (Err (Typing code file spot)) = IsTypingFault trees (fault.Typing code file spot)
ProgramTold trees (Err (Unbuilt file spot)) = (p : Program) × IsTyped trees p × (unbuilt trees ≡ Some (file, spot))
ProgramTold trees (Err Memory) = Unit {0}
ProgramTold trees (Err why) = ⊥

-- an accepted program where no form is told that isn't built
abbrev pub BuiltTold : Option (ℕ × Spot) → Program → Result Program ProgramFault → Type 0
BuiltTold form program (Ok p) = (p ≡ program) × (form ≡ None)
BuiltTold form program (Err (Unbuilt file spot)) = form ≡ Some (file, spot)
BuiltTold form program (Err why) = ⊥
