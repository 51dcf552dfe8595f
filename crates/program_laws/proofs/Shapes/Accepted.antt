-- The program of files in which no fault is found has its shapes, and so have its sites.
use Rattle.program_laws.proofs.Common.{List, Program, IsProgram}
use Rattle.epl_tree.specs.declared.unit.Unit.{Unit as File}
use Rattle.program_laws.proofs.Shapes.NamedRules.{rules}
use Rattle.program_laws.proofs.Shapes.Whole.{ProgramHolds, shapes_by_rules}

-- for every program that is made of files without faults
pub program_has_shapes : (units : List File) (program : Program) → IsProgram units program → ProgramHolds program
program_has_shapes = shapes_by_rules rules
