-- Faults with the numbers of their files.
use Rattle.std.proofs.Common.{◌≡◌, ℕ, List, [], ◌∷◌, ◌++◌, Some, Option, map, refl, ap, subst, sym, Ok, Err, ◌∙◌}
use Rattle.epl_tree.specs.declared.unit.EventDecl.{EventDecl}
use Rattle.epl_values.specs.declared.shape.EventShape.{EventShape}
use Rattle.type_table.specs.declared.fault.Fault.{Fault}
use Rattle.type_table.specs.declared.fault.CheckFault.{CheckFault}
use Rattle.type_table.specs.declared.fault.CheckFault.TheVariants as fault
use Rattle.epl_tree.specs.declared.unit.Unit.{Unit as File}
use Rattle.type_table.specs.declared.gathered.Gathered.{Gathered}
use Rattle.type_table.specs.declared.table.Table.{Table}
use Rattle.type_table.specs.Found.{first_of}
use Rattle.type_table.specs.Kinds.{names_of, kinds_of}
use Rattle.type_table.specs.Gathers.{in_file, IsFirst, event_shape, numbers, none_gathered, units_faults, Gathers, GathersUnits}
use Rattle.type_table.proofs.Order.{first_before, left_none}

pub first_map : (file : ℕ) (faults : List Fault) (f : Fault) → first_of faults ≡ Some f → first_of (map (in_file file) faults) ≡ Some (fault.Typing f.code file f.spot)
first_map file [] f h = cc
first_map file (g ∷ faults) f h = let same : g ≡ f = cc in ap (λ x. Some (in_file file x)) same

pub is_first_left : (e : CheckFault) (here rest all : List CheckFault) → here ++ rest ≡ all → IsFirst e here → IsFirst e all
is_first_left (fault.Typing code file spot) here rest all is h = subst (λ l. first_of l ≡ Some (fault.Typing code file spot)) is (first_before here rest _ h)
is_first_left fault.Memory here rest all is h = tt

pub shapes_named : (number_of : List ℕ → Option ℕ) (kinds : List EventDecl) → map (λ (t : EventShape). t.name) (map (event_shape number_of) kinds) ≡ names_of kinds
shapes_named number_of [] = refl
shapes_named number_of (e ∷ kinds) = ap (λ l. e.name.text ∷ l) (shapes_named number_of kinds)

-- the answer of the whole program
pub gathered_table : (units : List File) (kinds : List EventDecl) (table : Table) (g : Gathered) → kinds ≡ kinds_of units → GathersUnits kinds (Ok g) units → table.types ≡ map (event_shape (numbers kinds)) kinds → table.monitors ≡ g.monitors → Gathers (Ok table) units
gathered_table units kinds table g is h types monitors =
    let taken : GathersUnits (kinds_of units) (Ok g) units = subst (λ ks. GathersUnits ks (Ok g) units) is h in
    (taken.0, record { types = types ∙ ap (λ ks. map (event_shape (numbers ks)) ks) is; monitors = monitors ∙ ap (λ (x : Gathered). x.monitors) taken.1 })

pub gathered_refused : (units : List File) (kinds : List EventDecl) (e : CheckFault) → kinds ≡ kinds_of units → IsFirst e (units_faults kinds 0 none_gathered units) → Gathers (Err e) units
gathered_refused units kinds e is h = subst (λ ks. IsFirst e (units_faults ks 0 none_gathered units)) is h

pub ruleset whole = (gathered_table, gathered_refused, shapes_named)

pub ruleset parts = (is_first_left, left_none)
