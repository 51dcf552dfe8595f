-- A fault stands in one of the program files.
use Rattle.std.proofs.Common.{◌≡◌, ℕ, ◌+◌, ◌<◌, List, [], ◌∷◌, ◌++◌, length, map, Some, inl, inr, ap, arith}
use Rattle.std.specs.Prelude.{◌⊎◌}
use Rattle.std.proofs.lemmas.Option.{none-some, same_Some, slice_get_within}
use Rattle.span_text.specs.declared.spot.Spot.{Spot}
use Rattle.epl_tree.specs.declared.unit.EventDecl.{EventDecl}
use Rattle.epl_tree.specs.declared.unit.Unit.{Unit as Tree}
use Rattle.type_table.specs.declared.fault.CheckFault.{CheckFault}
use Rattle.type_table.specs.declared.fault.CheckFault.TheVariants as fault
use Rattle.type_table.specs.declared.fault.Fault.{Fault}
use Rattle.type_table.specs.declared.gathered.Gathered.{Gathered}
use Rattle.type_table.specs.declared.table.Table.{Table}
use Rattle.type_table.specs.Found.{first_of}
use Rattle.type_table.specs.Gathers.{in_file, faults_from, gathered_after, units_faults, none_gathered}
use Rattle.type_table.specs.Kinds.{kinds_of}
use Rattle.stmt_check.specs.declared.made.Made.{Made}
use Rattle.stmt_check.specs.Programs.{declarations_read, file_made, files_faults, nothing_made, IsFault}
use Rattle.built_forms.specs.Rows.{first_of as first_spot}
use Rattle.built_forms.specs.Units.{missing_in_unit, missing_from}
use Rattle.built_forms.specs.Units as built
use Rattle.program_reader.specs.declared.fault.ProgramFault.{ProgramFault}
use Rattle.program_reader.specs.declared.fault.ProgramFault.TheVariants.{Lex, Syntax, Typing, Unbuilt, Memory}
use Rattle.program_reader.specs.Programs.{IsCause}
use Rattle.epl_syntax.proofs.Trees.{trees_length}

-- the file of a typing fault
abbrev at_of : CheckFault → ℕ
at_of (fault.Typing code at spot) = at
at_of fault.Memory = 0

-- the first of a file's faults, or of those behind them
first_fault : (f : Fault → CheckFault) (xs : List Fault) (rest : List CheckFault) (b : CheckFault) → first_of (map f xs ++ rest) ≡ Some b → ((a : Fault) × (f a ≡ b)) ⊎ (first_of rest ≡ Some b)
first_fault f [] rest b h = inr h
first_fault f (x ∷ xs) rest b h = inl (x, same_Some _ _ h)

first_missing : (f : Spot → ℕ × Spot) (xs : List Spot) (rest : List (ℕ × Spot)) (b : ℕ × Spot) → first_spot (map f xs ++ rest) ≡ Some b → ((a : Spot) × (f a ≡ b)) ⊎ (first_spot rest ≡ Some b)
first_missing f [] rest b h = inr h
first_missing f (x ∷ xs) rest b h = inl (x, same_Some _ _ h)

units_within : (kinds : List EventDecl) (us : List Tree) (file : ℕ) (before : Gathered) (b : CheckFault) → first_of (units_faults kinds file before us) ≡ Some b → at_of b < file + length us
units_within kinds [] file before b h = absurd (none-some _ h)
units_within kinds (u ∷ us) file before b h = elim (first_fault (in_file file) (faults_from kinds file before u.declarations) (units_faults kinds (file + 1) (gathered_after kinds file before u.declarations) us) b h) [
  | inl e ↦ let same : file ≡ at_of b = ap at_of e.1 in omega arith
  | inr k ↦ let more = units_within kinds us (file + 1) (gathered_after kinds file before u.declarations) b k in omega arith
]

files_within : (table : Table) (us : List Tree) (file : ℕ) (made : Made) (b : CheckFault) → first_of (files_faults table file made us) ≡ Some b → at_of b < file + length us
files_within table [] file made b h = absurd (none-some _ h)
files_within table (u ∷ us) file made b h = elim (first_fault (λ (f : Fault). fault.Typing f.code file f.spot) (declarations_read table u.declarations made).faults (files_faults table (file + 1) (file_made table u made) us) b h) [
  | inl e ↦ let same : file ≡ at_of b = ap at_of e.1 in omega arith
  | inr k ↦ let more = files_within table us (file + 1) (file_made table u made) b k in omega arith
]

missing_within : (us : List Tree) (place : ℕ) (b : ℕ × Spot) → first_spot (missing_from place us) ≡ Some b → b.0 < place + length us
missing_within [] place b h = absurd (none-some _ h)
missing_within (u ∷ us) place b h = elim (first_missing (built.in_file place) (missing_in_unit u) (missing_from (place + 1) us) b h) [
  | inl e ↦ let same : place ≡ b.0 = ap (λ (p : ℕ × Spot). p.0) e.1 in omega arith
  | inr k ↦ let more = missing_within us (place + 1) b k in omega arith
]

fault_within : (us : List Tree) (b : CheckFault) → IsFault us b → at_of b < length us
fault_within us b (inl h) = let lt = units_within (kinds_of us) us 0 none_gathered b h in omega arith
fault_within us b (inr h) = let lt = files_within h.table us 0 (nothing_made h.table) b h.told in omega arith

-- the place of a fault is below this; want of memory is in no file
abbrev pub IsWithin : ProgramFault → ℕ → Type 0
IsWithin (Lex file spot) count = file < count
IsWithin (Syntax file spot) count = file < count
IsWithin (Typing code file spot) count = file < count
IsWithin (Unbuilt file spot) count = file < count
IsWithin Memory count = Unit {0}

-- what causes that there is no program stands in one of the files
pub cause_within : (texts : List (List ℕ)) (why : ProgramFault) → IsCause texts why → IsWithin why (length texts)
cause_within texts (Lex file spot) k = slice_get_within texts file k.bytes k.there
cause_within texts (Syntax file spot) k = slice_get_within texts file k.bytes k.there
cause_within texts (Typing code file spot) k =
    let lt = fault_within k.trees (fault.Typing code file spot) k.fault in
    let same = trees_length texts k.trees k.are_trees in
    omega arith
cause_within texts (Unbuilt file spot) k =
    let lt = missing_within k.trees 0 (file, spot) k.unbuilt_is in
    let same = trees_length texts k.trees k.are_trees in
    omega arith
cause_within texts Memory k = tt
