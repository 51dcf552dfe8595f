-- The program of files in which no fault is found has its shapes.
use Rattle.std.proofs.Common.{◌≡◌, ◌+◌, ◌∷◌}
use Rattle.program_laws.proofs.Common.{ℕ, suc, length, map, List, [], Some, true, refl, ap, sym, subst, ◌∙◌, slice_get, arith, slice_get_within, EventShape, EventDecl, Monitor, Program, Site, HasShapes, monitor_so, action_so, site_so, event_shape, numbers, kinds_of, names_of, IsProgram, made_of, nothing_made}
use Rattle.epl_tree.specs.declared.unit.Unit.{Unit as File}
use Rattle.typed_program.specs.Programs.{monitors_so}
use Rattle.program_laws.proofs.Shapes.Files.{AllHolds, files_hold, same_numbers}
use Rattle.program_laws.proofs.Shapes.Kinds.{KindsHold, kinds_hold}
use Rattle.program_laws.proofs.Shapes.Lists.{both_true, every_true, all_by_place}
use Rattle.program_laws.proofs.Shapes.Rules.{Rules}

monitors_from : (program : Program) (n : ℕ) (ms : List Monitor) → ((k : ℕ) (x : Monitor) → slice_get ms k ≡ Some x → monitor_so program (n + k) x ≡ true) → monitors_so program n ms ≡ true
monitors_from program n [] f = refl
monitors_from program n (m ∷ ms) f = both_true
    (let z : n + 0 ≡ n = omega arith in subst (λ (j : ℕ). monitor_so program j m ≡ true) z (f 0 m refl))
    (monitors_from program (1 + n) ms (λ k x at. let z : n + suc k ≡ 1 + n + k = omega arith in subst (λ (j : ℕ). monitor_so program j x ≡ true) z (f (suc k) x at)))

pub kind_names : (number_of : EventDecl → EventShape) (kinds : List EventDecl) → ((e : EventDecl) → (number_of e).name ≡ e.name.text) → map (λ (t : EventShape). t.name) (map number_of kinds) ≡ names_of kinds
kind_names f [] same = refl
kind_names f (e ∷ kinds) same = ap (λ (n : List ℕ). n ∷ map (λ (t : EventShape). t.name) (map f kinds)) (same e) ∙ ap (λ (ns : List (List ℕ)). e.name.text ∷ ns) (kind_names f kinds same)

-- a program that has its shapes, and each of its sites
pub record ProgramHolds (program : Program) : Type 0 where
  pub shapes : HasShapes program
  pub sites : (n : ℕ) (site : Site) → slice_get program.sites n ≡ Some site → site_so program site ≡ true

-- where expressions and event expressions without faults have their shapes, those of callbacks too
pub shapes_by_rules : Rules → (units : List File) (program : Program) → IsProgram units program → ProgramHolds program
shapes_by_rules rules units program is =
    let kinds : KindsHold program = kinds_hold units program (ap (λ (p : Program). p.types) is.program_is ∙ is.is_table.types) is.declared in
    let types : is.table.types ≡ program.types = sym (ap (λ (p : Program). p.types) is.program_is) in
    let monitors : program.monitors ≡ (made_of is.table units).monitors = ap (λ (p : Program). p.monitors) is.program_is in
    let actions : program.actions ≡ (made_of is.table units).actions = ap (λ (p : Program). p.actions) is.program_is in
    let sites : program.sites ≡ (made_of is.table units).sites = ap (λ (p : Program). p.sites) is.program_is in
    let names : map (λ (t : EventShape). t.name) is.table.types ≡ names_of (kinds_of units) = ap (map (λ (t : EventShape). t.name)) is.is_table.types ∙ kind_names (event_shape (numbers (kinds_of units))) (kinds_of units) (λ e. refl) in
    let all : AllHolds program (nothing_made is.table) (made_of is.table units) = files_hold rules program is.table types kinds.few kinds.known (kinds_of units) (same_numbers is.table (kinds_of units) names) units is.declared is.faultless is.is_table.monitors monitors actions sites in
    let finished : (i : ℕ) (x : Site) → slice_get (made_of is.table units).sites i ≡ Some x → slice_get program.sites i ≡ Some x = (λ i x at. ap (λ (xs : List Site). slice_get xs i) sites ∙ at) in
    record {
      shapes = record {
        types = kinds.types;
        monitors = monitors_from program 0 program.monitors (λ k x at. let z : k ≡ 0 + k = omega arith in subst (λ (j : ℕ). monitor_so program j x ≡ true) z (all.monitors k x (omega arith) (ap (λ (xs : List Monitor). slice_get xs k) (sym monitors) ∙ at)));
        actions = every_true (action_so program) program.actions (all_by_place program.actions (λ i x at. all.actions finished i x (omega arith) (ap (λ xs. slice_get xs i) (sym actions) ∙ at)));
      };
      sites = λ i x at.
          let lt = slice_get_within program.sites i x at in
          let e = ap length sites in
          all.sites_hold finished i x (omega arith) (omega (arith, e)) at;
    }
