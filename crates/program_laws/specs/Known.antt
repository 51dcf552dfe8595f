-- Where all names are known: the table and the scope of a text, and what its body knows by number, speak of the same things.
use Rattle.program_laws.specs.Common.{ℕ, Bool, true, false, not, List, Option, Some, None, Scope, Seen, SeenKind, Table, ActionHead, action_named, seen}
use Rattle.std.specs.Prelude.{◌≡◌, ◌&&◌, ◌≤◌, ◌||◌, length, map, slice_get}
use Rattle.std.specs.List.{AllByRecursion, list_all}
use Rattle.epl_values.specs.declared.shape.Shape.{Shape}
use Rattle.epl_values.specs.declared.shape.EventShape.{EventShape}
use Rattle.typed_program.specs.declared.expression.TypedExpr.{TypedExpr}
use Rattle.typed_program.specs.declared.program.Action.{Action}
use Rattle.typed_program.specs.Shapes.{stands, is_scalar}
use Rattle.typed_program.specs.Expressions.{Names, holds, shape_of}
use Rattle.type_table.specs.declared.scope.SeenKind.TheVariants as kind
use Rattle.expr_rules.specs.declared.placed.Gives.{Gives}
use Rattle.expr_rules.specs.declared.placed.Gives.TheVariants as gives
use Rattle.expr_rules.specs.Asked.{Wish, Statement, Unknown, Exactly, Key}
use Rattle.expr_rules.specs.Calls.{param_wants, result_given}
use Rattle.expr_rules.specs.Places.{fits, is_key}

-- the shape that a body knows by the number of a name
abbrev pub by_number : Names → SeenKind → ℕ → Option Shape
by_number names kind.Global n = slice_get names.globals n
by_number names k n = slice_get names.locals n

-- a visible name, and what its number stands for
pub record KnowsName (names : Names) (s : Seen) : Type 0 where
  pub shape : Shape
  pub known : s.shape ≡ Some shape
  pub stands : stands names.types shape ≡ true
  pub at : by_number names s.kind s.number ≡ Some shape

abbrev pub gives_result : Option Shape → Gives
gives_result None = gives.Nothing
gives_result (Some s) = gives.Value s

abbrev pub result_stands : List EventShape → Option Shape → Bool
result_stands types None = true
result_stands types (Some s) = stands types s

-- the head of an action, and the action that its number stands for
pub record KnowsAction (names : Names) (head : ActionHead) : Type 0 where
  pub action : Action
  pub at : slice_get names.actions head.number ≡ Some action
  pub own : action.monitor ≡ names.monitor
  pub params : param_wants head.params ≡ map (λ s. Some s) action.params
  pub result : result_given head.result ≡ gives_result action.result
  pub params_stand : list_all (stands names.types) action.params ≡ true
  pub result_stands : result_stands names.types action.result ≡ true

-- an event type whose fields have known shapes
pub record KnowsType (types : List EventShape) (event : EventShape) : Type 0 where
  pub few : length event.fields ≤ 65535
  pub fields : list_all (λ f. stands types f.shape) event.fields ≡ true

pub record Knows (table : Table) (names : Names) (scope : Scope) : Type 0 where
  pub types : table.types ≡ names.types
  pub few : length names.types ≤ 65535
  pub kinds : AllByRecursion (KnowsType names.types) names.types
  pub seen : AllByRecursion (KnowsName names) scope.names
  pub actions : (name : List ℕ) (head : ActionHead) → action_named table scope name ≡ Some head → KnowsAction names head

-- the types and actions of a table, and those that a body knows by number
pub record KnowsTable (table : Table) (names : Names) (scope : Scope) : Type 0 where
  pub types : table.types ≡ names.types
  pub few : length names.types ≤ 65535
  pub kinds : AllByRecursion (KnowsType names.types) names.types
  pub actions : (name : List ℕ) (head : ActionHead) → action_named table scope name ≡ Some head → KnowsAction names head

-- of the visible names, those that pass a test
pub record KnowsNamed (names : Names) (scope : Scope) (named : List ℕ → Bool) : Type 0 where
  pub known_at : (name : List ℕ) (s : Seen) → named name ≡ true → seen scope name ≡ Some s → KnowsName names s

-- what is asked is known, and names what is there
abbrev pub wish_stands : List EventShape → Wish → Bool
wish_stands types Unknown = false
wish_stands types (Exactly s) = stands types s
wish_stands types (Key (Some s)) = stands types s && is_scalar s
wish_stands types wish = true

-- an expression is what is asked: its parts hold, and its shape is one that is asked, which for a key is scalar
abbrev pub wished : Wish → Option Shape → Bool
wished Statement s = true
wished wish None = false
wished wish (Some s) = fits wish s && (not (is_key wish) || is_scalar s)

abbrev pub answers : Names → Wish → TypedExpr → Bool
answers names wish e = holds names e && wished wish (shape_of e)
