-- A fault of a program, and the refusal that names its file.
use Rattle.std.proofs.Common.{◌≡◌, ℕ, ◌<◌, ◌≤◌, List, length, Some, Err, IfSome, arith, sym, subst}
use Rattle.std.proofs.lemmas.Option.{none-some}
use Rattle.program_reader.specs.declared.fault.ProgramFault.{ProgramFault}
use Rattle.program_reader.specs.declared.fault.ProgramFault.TheVariants as fault
use Rattle.program_reader.specs.Programs.{TellsProgram}
use Rattle.program_reader.proofs.Places.{cause_within}
use Rattle.correlator_run.specs.declared.refusal.Refusal.{Refusal}
use Rattle.correlator_run.specs.declared.refusal.Refusal.TheVariants as refusal
use Rattle.correlator_run.specs.Causes.{file_of, name_at}
use Rattle.correlator_run.specs.Steps.{IsRefusal, ProgramTold}

-- a fault stands in one of the named files
pub fault_named : (texts names : List (List ℕ)) (why : ProgramFault) → TellsProgram texts (Err why) → length texts ≤ length names → IfSome (file_of why) (λ file. file < length names)
fault_named texts names (fault.Lex file spot) told few = let lt : file < length texts = cause_within texts (fault.Lex file spot) told.0 in omega arith
fault_named texts names (fault.Syntax file spot) told few = let lt : file < length texts = cause_within texts (fault.Syntax file spot) told.0 in omega arith
fault_named texts names (fault.Typing code file spot) told few = let lt : file < length texts = cause_within texts (fault.Typing code file spot) told.0 in omega arith
fault_named texts names (fault.Unbuilt file spot) told few = let lt : file < length texts = cause_within texts (fault.Unbuilt file spot) told.0 in omega arith
fault_named texts names fault.Memory told few = record {}

-- what causes a fault in a named file
told_fault : (texts names : List (List ℕ)) (name : List ℕ) (why : ProgramFault) → TellsProgram texts (Err why) → name_at names (file_of why) ≡ Some name → ProgramTold texts names (Err (refusal.Program name why))
told_fault texts names name (fault.Lex file spot) told at = (at, told.0, told.1, told.2)
told_fault texts names name (fault.Syntax file spot) told at = (at, told.0, told.1, told.2)
told_fault texts names name (fault.Typing code file spot) told at = (at, told.0, told.1, told.2)
told_fault texts names name (fault.Unbuilt file spot) told at = (at, told.0, told.1, told.2)
told_fault texts names name fault.Memory told at = absurd (none-some _ at)

-- what is told of texts without a program is told of their refusal
pub told_refused : (texts names : List (List ℕ)) (why : ProgramFault) (r : Refusal) → TellsProgram texts (Err why) → IsRefusal names why r → ProgramTold texts names (Err r)
told_refused texts names why refusal.Words told is = absurd is
told_refused texts names why (refusal.Missing name) told is = absurd is
told_refused texts names why (refusal.Read name) told is = absurd is
told_refused texts names why (refusal.TooLong name) told is = absurd is
told_refused texts names why (refusal.Program name cause) told is = subst (λ (w : ProgramFault). ProgramTold texts names (Err (refusal.Program name w))) (sym is.0) (told_fault texts names name why told is.1)
told_refused texts names why (refusal.Events name line) told is = absurd is
told_refused texts names why refusal.Memory told is = tt
