-- A program that is accepted is the only one of its files, and has no fault; files have one first fault.
use Rattle.std.proofs.Common.{◌≡◌, ℕ, List, [], map, sym, ◌∙◌, ap, Some, None, Option, inl, inr}
use Rattle.std.proofs.lemmas.Option.{none-some, same_Some}
use mathlib.Core.HLevel.{is_prop→PathP}
use Rattle.std.specs.Coded.{codes}
use Rattle.epl_tree.specs.declared.unit.Unit.{Unit as File}
use Rattle.epl_values.specs.declared.shape.EventShape.{EventShape}
use Rattle.type_table.specs.declared.fault.CheckFault.{CheckFault}
use Rattle.type_table.specs.declared.table.Table.{Table}
use Rattle.type_table.specs.Found.{first_of}
use Rattle.type_table.specs.Gathers.{IsTable}
use Rattle.typed_program.specs.declared.program.Program.{Program}
use Rattle.stmt_check.specs.Programs.{IsProgram, IsFault, program_of, members_faults}

names_same : (a b : Table) → a.types ≡ b.types → a.names ≡ b.names
names_same a b types = a.named ∙ ap (λ ts. map (λ t. t.name) ts) types ∙ sym b.named

names_set : IsSet (List (List ℕ))
names_set = hlevel codes

named_prop : (names : List (List ℕ)) (types : List EventShape) → IsProp (names ≡ map (λ t. t.name) types)
named_prop names types = names_set names (map (λ t. t.name) types)

same_table : (a b : Table) → a.types ≡ b.types → a.monitors ≡ b.monitors → a ≡ b
same_table a b types monitors =
    let names = names_same a b types in
    λ i. record {
      types = types i;
      monitors = monitors i;
      names = names i;
      named = is_prop→PathP (λ j. names j ≡ map (λ t. t.name) (types j)) (λ j. named_prop (names j) (types j)) a.named b.named i;
    }

-- the table of files is one
table_only : (units : List File) (a b : Table) → IsTable units a → IsTable units b → a ≡ b
table_only units a b h k = same_table a b (h.types ∙ sym k.types) (h.monitors ∙ sym k.monitors)

pub program_only : (units : List File) (p q : Program) → IsProgram units p → IsProgram units q → q ≡ p
program_only units p q h k = k.program_is ∙ ap (λ (t : Table). program_of t units) (table_only units k.table h.table k.is_table h.is_table) ∙ sym h.program_is

no_first : (faults : List CheckFault) (f : CheckFault) → faults ≡ [] → first_of faults ≡ Some f → ⊥
no_first faults f none some = let both : ◌≡◌ {A = Option CheckFault} None (Some f) = sym (ap first_of none) ∙ some in absurd (none-some _ both)

pub fault_apart : (units : List File) (f : CheckFault) (p : Program) → IsFault units f → IsProgram units p → ⊥
fault_apart units f p (inl h) k = no_first _ f k.declared h
fault_apart units f p (inr h) k =
    no_first (members_faults h.table units) f (ap (λ (t : Table). members_faults t units) (table_only units h.table k.table h.is_table k.is_table) ∙ k.faultless) h.told

-- the first fault of files is one
pub fault_only : (units : List File) (f g : CheckFault) → IsFault units f → IsFault units g → f ≡ g
fault_only units f g (inl h) (inl k) = same_Some _ _ (sym h ∙ k)
fault_only units f g (inl h) (inr k) = absurd (no_first _ f k.declared h)
fault_only units f g (inr h) (inl k) = absurd (no_first _ g h.declared k)
fault_only units f g (inr h) (inr k) =
    same_Some _ _ (sym h.told ∙ ap (λ (t : Table). first_of (members_faults t units)) (table_only units h.table k.table h.is_table k.is_table) ∙ k.told)
