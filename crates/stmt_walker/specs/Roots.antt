-- The variable that a path begins at.
use Rattle.std.specs.Prelude.{◌≡◌, List, Option, Some, None}
use Rattle.epl_values.specs.declared.shape.EventShape.{EventShape}
use Rattle.typed_program.specs.declared.expression.TypedExpr.{TypedExpr}
use Rattle.typed_program.specs.declared.statement.Variable.{Variable}
use Rattle.body_meaning.specs.Expressions.{Calls, Place, meaning_of}

-- an expression is a place behind this variable
pub record Begins (types : List EventShape) (call : Calls) (e : TypedExpr) (x : Variable) : Type 0 where
  pub place : Place
  pub is : (meaning_of types call e).place ≡ Some place
  pub behind : place.variable ≡ x

-- what is told of an expression: the variable that it is a place behind, or that it is no place
abbrev pub Roots : List EventShape → Calls → TypedExpr → Option Variable → Type 0
Roots types call e None = (meaning_of types call e).place ≡ None
Roots types call e (Some x) = Begins types call e x
