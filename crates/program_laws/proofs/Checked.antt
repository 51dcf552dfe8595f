-- A program of files in which no fault is found is typed.
use Rattle.std.proofs.Common.{◌≡◌}
use Rattle.program_laws.proofs.Common.{ℕ, List, Some, slice_get, Program, Site, IsProgram}
use Rattle.epl_tree.specs.declared.unit.Unit.{Unit as File}
use Rattle.typed_program.specs.Sites.{LawfulSite}
use Rattle.typed_program.specs.Typed.{Typed}
use Rattle.program_laws.proofs.Shapes.NamedRules.{rules}
use Rattle.program_laws.proofs.Shapes.Accepted.{program_has_shapes}
use Rattle.program_laws.proofs.Shapes.Whole.{ProgramHolds}
use Rattle.program_laws.proofs.Lawful.Whole.{law_rules}
use Rattle.program_laws.proofs.Rules.Whole.{ProgramKeeps, program_keeps}
use Rattle.program_laws.proofs.Limits.Whole.{names_differ, no_cycle, limits_hold}

-- a site that has its shapes and keeps the rules is lawful
site_lawful : (program : Program) → ProgramHolds program → ProgramKeeps program → (n : ℕ) (site : Site) → slice_get program.sites n ≡ Some site → LawfulSite program n site
site_lawful program holds keeps n site at =
    let k = keeps.sites n site at in
    record { shapes = holds.sites n site at; operands = k.operands; bound = k.bound; term = k.term; ascends = k.ascends; named = k.named; callback = k.callback }

-- the only program of files without faults
pub program_is_typed : (units : List File) (program : Program) → IsProgram units program → Typed program
program_is_typed units program is =
    let holds = program_has_shapes units program is in
    let keeps = program_keeps law_rules rules units program is in
    record {
      shapes = holds.shapes;
      rules = keeps.rules;
      sites = site_lawful program holds keeps;
      distinct = names_differ units program is;
      no_cycle = no_cycle units program is;
      limits = limits_hold units program is;
    }
