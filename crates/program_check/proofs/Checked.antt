-- An answer of the checker that is a program is typed, where programs without faults are.
use Rattle.std.proofs.Common.{List, Result, Ok, Err, IfOk}
use Rattle.epl_tree.specs.declared.unit.Unit.{Unit as File}
use Rattle.type_table.specs.declared.fault.CheckFault.{CheckFault}
use Rattle.typed_program.specs.declared.program.Program.{Program}
use Rattle.typed_program.specs.Typed.{Typed}
use Rattle.stmt_check.specs.Programs.{IsProgram, Checks}

pub accepted_typed : ((units : List File) (program : Program) → IsProgram units program → Typed program) → (units : List File) (r : Result Program CheckFault) → Checks r units → IfOk r Typed
accepted_typed law units (Ok program) is = law units program is
accepted_typed law units (Err fault) is = record {}
