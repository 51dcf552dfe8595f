-- Where names and actions, as they are known by number, are what the checker sees by them.
use Rattle.std.specs.Prelude.{ℕ, ◌+◌, ◌≡◌, true, List, Some}
use Rattle.std.specs.Option.{option_map}
use Rattle.typed_program.specs.declared.statement.Variable.{Variable}
use Rattle.typed_program.specs.declared.statement.Variable.TheVariants as variable
use Rattle.type_table.specs.declared.scope.Scope.{Scope}
use Rattle.type_table.specs.declared.scope.Seen.{Seen}
use Rattle.type_table.specs.declared.scope.SeenKind.{SeenKind}
use Rattle.type_table.specs.declared.scope.SeenKind.TheVariants as kind
use Rattle.type_table.specs.declared.table.ActionHead.{ActionHead}
use Rattle.type_table.specs.declared.table.Table.{Table}
use Rattle.expr_rules.specs.Calls.{action_named}
use Rattle.expr_rules.specs.Names.{seen}
use Rattle.stmt_check.specs.Captures.{Names}
use Rattle.name_resolution.specs.Names.{Named, Meant, meaning_of, place_of, held}

abbrev pub variable_by : SeenKind → ℕ → Variable
variable_by kind.Global n = variable.Global n
variable_by k n = variable.Local n

abbrev pub meant_by : Seen → Meant
meant_by s = record { variable = variable_by s.kind s.number; shape = s.shape }

-- the names that pass a test
pub record Agrees (names : List Named) (scope : Scope) (named : Names) : Type 0 where
  pub same : (name : List ℕ) → named name ≡ true → meaning_of names name ≡ option_map meant_by (seen scope name)

-- a visible action
pub record ActionIs (actions : List (List ℕ)) (first : ℕ) (name : List ℕ) (head : ActionHead) : Type 0 where
  pub place : ℕ
  pub there : place_of actions name ≡ Some place
  pub number : head.number ≡ held (first + place)

pub record ActionsAgree (table : Table) (scope : Scope) (actions : List (List ℕ)) (first : ℕ) : Type 0 where
  pub known : (name : List ℕ) (head : ActionHead) → action_named table scope name ≡ Some head → ActionIs actions first name head
