-- Which event types may be in a cycle. One is settled as soon as all that it names are; the others are pending.
use Rattle.std.specs.Prelude.{ℕ, Bool, false, List, Some, ◌≡◌}
use Rattle.epl_tree.specs.declared.unit.EventDecl.{EventDecl}
use Rattle.type_table.specs.Names.{number_in}
use Rattle.type_table.specs.Kinds.{names_of, event_named}
use Rattle.type_table.specs.Chains.{met, any_field, at_number, contains_itself}

-- whether a table says that the event type of a name is pending
abbrev pub is_pending : List EventDecl → List Bool → List ℕ → Bool
is_pending kinds table name = at_number false table (number_in (names_of kinds) name)

-- a settled event type names no pending one, and doesn't contain itself
pub record ArePending (kinds : List EventDecl) (table : List Bool) : Type 0 where
  pub closed : (name : List ℕ) (e : EventDecl) → event_named kinds name ≡ Some e → is_pending kinds table name ≡ false → any_field (met false (is_pending kinds table)) e ≡ false
  pub apart : (name : List ℕ) → is_pending kinds table name ≡ false → contains_itself kinds name ≡ false
