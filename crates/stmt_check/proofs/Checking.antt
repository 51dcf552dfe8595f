-- How the first fault of all files comes from that of a monitor, and the answer from those of its parts.
use Rattle.std.proofs.Common.{◌≡◌, ℕ, ◌+◌, ◌<◌, ◌≤◌, length, drop, get_or, List, [], ◌∷◌, ◌++◌, Option, Some, None, Result, Ok, Err, sym, ap, subst, ◌∙◌, inl, inr}
use Rattle.std.proofs.lemmas.List.{drop_all}
use Rattle.std.specs.Prelude.{IsErrAnd}
use Rattle.epl_tree.specs.declared.unit.Declaration.{Declaration}
use Rattle.epl_tree.specs.declared.unit.Unit.{Unit as File}
use Rattle.typed_program.specs.declared.program.Program.{Program}
use Rattle.type_table.specs.declared.fault.CheckFault.{CheckFault}
use Rattle.type_table.specs.declared.fault.CheckFault.TheVariants as fault
use Rattle.type_table.specs.declared.fault.Fault.{Fault}
use Rattle.type_table.specs.declared.fault.Refusal.{Refusal}
use Rattle.type_table.specs.declared.fault.Refusal.TheVariants as refusal
use Rattle.type_table.specs.declared.table.Table.{Table}
use Rattle.type_table.specs.Found.{first_of}
use Rattle.type_table.specs.Gathers.{Gathers}
use Rattle.stmt_check.specs.declared.made.Made.{Made}
use Rattle.stmt_check.specs.Programs.{Checks, ReadsFiles, GoesFile, in_file, declarations_read, files_faults, files_made, members_faults, made_of, fault_in}
use Rattle.stmt_check.specs.Steps.{Goes}
use Rattle.stmt_check.proofs.Going.{first_before, next_drop}

pub checks_declared : (units : List File) (e : CheckFault) → Gathers (Err e) units → Checks (Err e) units
checks_declared units (fault.Typing code file spot) h = inl h
checks_declared units fault.Memory h = tt

pub checks_members : (units : List File) (table : Table) (e : CheckFault) → Gathers (Ok table) units → ReadsFiles table (Err e) units → Checks (Err e) units
checks_members units table (fault.Typing code file spot) g h = inr (record { table = table; is_table = g.1; declared = g.0; told = h })
checks_members units table fault.Memory g h = tt

-- the error that a `?` hands on
pub checks_err : (units : List File) (e : CheckFault) (r : Result Program CheckFault) → IsErrAnd r (λ x. x ≡ e) → Checks (Err e) units → Checks r units
checks_err units e (Ok x) h g = absurd h
checks_err units e (Err x) h g = subst (λ y. Checks (Err y) units) (sym h) g

pub checks_done : (units : List File) (table : Table) (made : Made) {program : Program} → Gathers (Ok table) units → ReadsFiles table (Ok made) units → program ≡ record { types = table.types; monitors = made.monitors; actions = made.actions; sites = made.sites } → Checks (Ok program) units
checks_done units table made g h is =
    let at : Made → Program = λ m. record { types = table.types; monitors = m.monitors; actions = m.actions; sites = m.sites } in
    record { table = table; is_table = g.1; declared = g.0; faultless = h.0; program_is = is ∙ ap at (sym h.1) }

first_in : (file : ℕ) (faults : List Fault) (f : Fault) → first_of faults ≡ Some f → first_of (in_file file faults) ≡ Some (fault.Typing f.code file f.spot)
first_in file [] f h = cc
first_in file (g ∷ faults) f h =
    let at : Option Fault → Option CheckFault = λ o. elim o [ None ↦ None | Some x ↦ Some (fault.Typing x.code file x.spot) ] in
    ap at h

-- a refusal of a file's declarations
pub file_stop : (table : Table) (file : ℕ) (ds : List Declaration) {old new : Made} (e : Refusal) {told : CheckFault} → told ≡ fault_in file e → Goes (declarations_read table ds) old new (Err e) → GoesFile table file ds old new (Err told)
file_stop table file ds {old} {new} (refusal.Fault f) is h = subst (λ x. GoesFile table file ds old new (Err x)) (sym is) (first_in file (declarations_read table ds old).faults f h.does)
file_stop table file ds {old} {new} refusal.Memory is h = subst (λ x. GoesFile table file ds old new (Err x)) (sym is) tt

-- the error that a `?` hands on
pub reads_err : (table : Table) (units : List File) (e : CheckFault) (r : Result Made CheckFault) → IsErrAnd r (λ x. x ≡ e) → ReadsFiles table (Err e) units → ReadsFiles table r units
reads_err table units e (Ok x) h g = absurd h
reads_err table units e (Err x) h g = subst (λ y. ReadsFiles table (Err y) units) (sym h) g

-- the files from one on, behind what was made of those before it
pub record Behind (table : Table) (units : List File) (file : ℕ) (made : Made) : Type 0 where
  pub faults : files_faults table file made (drop file units) ≡ members_faults table units
  pub makes : files_made table made (drop file units) ≡ made_of table units

module _ (table : Table) (units : List File) (i : ℕ) {u : File} {made : Made} where
  pub files_step : {new : Made} → i < length units → u ≡ get_or units i u → Behind table units i made → GoesFile table i u.declarations made new (Ok tt) → Behind table units (i + 1) new
  files_step {new} lt is so h =
      let rest : drop i units ≡ u ∷ drop (i + 1) units = next_drop units i u lt is in
      record {
        faults = sym (ap (λ found. in_file i found.faults ++ files_faults table (i + 1) found.part.state (drop (i + 1) units)) h) ∙ ap (files_faults table i made) (sym rest) ∙ so.faults;
        makes = sym (ap (λ found. files_made table found.part.state (drop (i + 1) units)) h) ∙ ap (files_made table made) (sym rest) ∙ so.makes;
      }

  pub files_stop : (e : CheckFault) (new : Made) → i < length units → u ≡ get_or units i u → Behind table units i made → GoesFile table i u.declarations made new (Err e) → ReadsFiles table (Err e) units
  files_stop (fault.Typing code at spot) new lt is so h =
      sym (ap first_of so.faults)
      ∙ ap (λ us. first_of (files_faults table i made us)) (next_drop units i u lt is)
      ∙ first_before (in_file i (declarations_read table u.declarations made).faults) _ (fault.Typing code at spot) h
  files_stop fault.Memory new lt is so h = tt

pub files_end : (table : Table) (units : List File) (i : ℕ) {made : Made} → length units ≤ i → Behind table units i made → ReadsFiles table (Ok made) units
files_end table units i {made} le so =
    (sym so.faults ∙ ap (files_faults table i made) (drop_all i units le), sym so.makes ∙ ap (files_made table made) (drop_all i units le))
