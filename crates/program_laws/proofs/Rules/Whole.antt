-- The program of files in which no fault is found keeps the rules.
use Rattle.std.proofs.Common.{◌≡◌}
use Rattle.program_laws.proofs.Common.{ℕ, map, List, Some, refl, ap, sym, ◌∙◌, slice_get, slice_get_within, arith, length, EventShape, Monitor, Program, Site, monitor_lawful, action_lawful, event_shape, numbers, kinds_of, names_of, IsProgram, made_of, nothing_made}
use Rattle.epl_tree.specs.declared.unit.Unit.{Unit as File}
use Rattle.typed_program.specs.Rules.{KeepsRules}
use Rattle.program_laws.proofs.Lawful.Rules.{LawRules}
use Rattle.program_laws.proofs.Rules.Files.{AllKeeps, files_keep}
use Rattle.program_laws.proofs.Rules.Sites.{SiteKeeps}
use Rattle.program_laws.proofs.Shapes.Files.{same_numbers}
use Rattle.program_laws.proofs.Shapes.Kinds.{KindsHold, kinds_hold}
use Rattle.program_laws.proofs.Shapes.Lists.{every_true, all_by_place}
use Rattle.program_laws.proofs.Shapes.Rules.{Rules}
use Rattle.program_laws.proofs.Shapes.Whole.{kind_names}

-- a program that keeps the rules, and each of its sites by itself
pub record ProgramKeeps (program : Program) : Type 0 where
  pub rules : KeepsRules program
  pub sites : (n : ℕ) (site : Site) → slice_get program.sites n ≡ Some site → SiteKeeps program n site

-- where expressions and event expressions without faults have their shapes and keep the rules, the program keeps them
pub program_keeps : LawRules → Rules → (units : List File) (program : Program) → IsProgram units program → ProgramKeeps program
program_keeps rules shapes units program is =
    let kinds : KindsHold program = kinds_hold units program (ap (λ (p : Program). p.types) is.program_is ∙ is.is_table.types) is.declared in
    let types : is.table.types ≡ program.types = sym (ap (λ (p : Program). p.types) is.program_is) in
    let monitors : program.monitors ≡ (made_of is.table units).monitors = ap (λ (p : Program). p.monitors) is.program_is in
    let actions : program.actions ≡ (made_of is.table units).actions = ap (λ (p : Program). p.actions) is.program_is in
    let sites : program.sites ≡ (made_of is.table units).sites = ap (λ (p : Program). p.sites) is.program_is in
    let names : map (λ (t : EventShape). t.name) is.table.types ≡ names_of (kinds_of units) = ap (map (λ (t : EventShape). t.name)) is.is_table.types ∙ kind_names (event_shape (numbers (kinds_of units))) (kinds_of units) (λ e. refl) in
    let all : AllKeeps program (nothing_made is.table) (made_of is.table units) = files_keep rules shapes program is.table types kinds.few kinds.known (kinds_of units) (same_numbers is.table (kinds_of units) names) units is.declared is.faultless is.is_table.monitors monitors actions sites in
    let finished : (i : ℕ) (x : Site) → slice_get (made_of is.table units).sites i ≡ Some x → slice_get program.sites i ≡ Some x = (λ i x at. ap (λ (xs : List Site). slice_get xs i) sites ∙ at) in
    record {
      rules = record {
        monitors = every_true monitor_lawful program.monitors (all_by_place program.monitors (λ i x at. all.monitors i x (omega arith) (ap (λ (xs : List Monitor). slice_get xs i) (sym monitors) ∙ at)));
        actions = every_true (action_lawful program) program.actions (all_by_place program.actions (λ i x at. all.actions finished i x (omega arith) (ap (λ xs. slice_get xs i) (sym actions) ∙ at)));
      };
      sites = λ n site at.
          let lt = slice_get_within program.sites n site at in
          let e = ap length sites in
          all.sites_keep finished n site (omega arith) (omega (arith, e)) at;
    }
