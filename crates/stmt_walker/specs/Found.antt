-- The change of a variable in place that an expression is as a statement.
use Rattle.std.specs.Prelude.{◌≡◌, List, ◌++◌, map, Option, Some, None}
use Rattle.epl_values.specs.declared.shape.EventShape.{EventShape}
use Rattle.typed_program.specs.declared.expression.TypedExpr.{TypedExpr}
use Rattle.body_meaning.specs.Expressions.{Calls, Place, meaning_of, reach_of, all_values, change_place}
use Rattle.body_meaning.specs.Statements.{moves_in}
use Rattle.stmt_walker.specs.declared.changing.ChangeIn.{ChangeIn}

-- as a statement an expression changes the place that a path and further steps lead to, by a method with arguments
pub record ChangesAt (types : List EventShape) (call : Calls) (e : TypedExpr) (to : ChangeIn) : Type 0 where
  pub place : Place
  pub is : (meaning_of types call to.path.now).place ≡ Some place
  pub behind : place.variable ≡ to.variable
  pub run : (meaning_of types call e).run ≡ change_place (record { variable = place.variable; moves = place.moves ++ moves_in (map (reach_of types call) to.steps.now) }) (record { method = to.method; arguments = all_values types call to.arguments.now })

-- what is found of an expression: the change that it is as a statement, or that it is a value there
abbrev pub Found : List EventShape → Calls → TypedExpr → Option ChangeIn → Type 0
Found types call e None = (meaning_of types call e).run ≡ (meaning_of types call e).value
Found types call e (Some to) = ChangesAt types call e to
