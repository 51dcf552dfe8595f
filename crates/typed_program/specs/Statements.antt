-- Statements: each number names something that is there, and each expression has the shape that its place asks.
use Rattle.std.specs.Prelude.{◌&&◌, ◌||◌, ◌==◌, ◌∷◌}
use Rattle.typed_program.specs.Common.{ℕ, Bool, true, false, not, List, [], map, Option, Some, None, is_some, slice_get, list_all, Shape}
use Rattle.epl_values.specs.declared.shape.Shape.TheVariants as shape
use Rattle.typed_program.specs.declared.expression.TypedExpr.{TypedExpr}
use Rattle.typed_program.specs.declared.program.Action.{Action}
use Rattle.typed_program.specs.declared.program.Site.{Site}
use Rattle.typed_program.specs.declared.program.Local.{Local}
use Rattle.typed_program.specs.declared.statement.Stmt.{Stmt, Stmt-F, fold-Stmt}
use Rattle.typed_program.specs.declared.statement.Stmt.TheOpen as stmt
use Rattle.typed_program.specs.declared.statement.TypedPlace.{TypedPlace}
use Rattle.typed_program.specs.declared.statement.Variable.{Variable}
use Rattle.typed_program.specs.declared.statement.Variable.TheVariants as variable
use Rattle.typed_program.specs.Shapes.{same, item_of, is_event, is_channel, stands}
use Rattle.typed_program.specs.Expressions.{Names, if_known, walks, shape_of, stepping, has, holds, have}

-- a body: what it may name, the sites of the program, and the shape of its result, if it has one
pub record Body : Type 0 where
  pub names : Names
  pub sites : List Site
  pub result : Option Shape

abbrev pub is_local : Body → Shape → ℕ → Bool
is_local body s at = if_known (same s) (slice_get body.names.locals at)

-- a value of a shape that passes a test
abbrev pub passes : Body → (Shape → Bool) → TypedExpr → Bool
passes body test e = holds body.names e && if_known test (shape_of e)

-- a value of whatever shape
abbrev pub is_value : Body → TypedExpr → Bool
is_value body e = passes body (λ s. true) e

abbrev pub variable_shape : Names → Variable → Option Shape
variable_shape names (variable.Global n) = slice_get names.globals n
variable_shape names (variable.Local n) = slice_get names.locals n

-- what is assigned: a variable, and the fields and elements behind it
abbrev pub place_so : Body → TypedPlace → Bool
place_so body place = walks (variable_shape body.names place.variable) (map (stepping body.names) place.steps) (Some place.shape)

-- a listener of a site: what is evaluated at the `on`, and the names that its callback takes along
abbrev pub captures : Body → Local → Bool
captures body c = is_local body c.shape c.number

abbrev pub listens : Body → Site → Bool
listens body site = site.monitor == body.names.monitor && list_all (is_value body) site.operands && list_all (captures body) site.captured

abbrev pub site_so : Body → ℕ → Bool
site_so body n = if_known (listens body) (slice_get body.sites n)

abbrev pub item_is : Body → Shape → Shape → Bool
item_is body local s = if_known (same local) (item_of s)

-- the loop variable has the shape of the elements
abbrev pub loops : Body → ℕ → TypedExpr → Bool
loops body n items = if_known (λ s. passes body (item_is body s) items) (slice_get body.names.locals n)

abbrev pub returns : Body → Option TypedExpr → Bool
returns body None = not (is_some body.result)
returns body (Some e) = if_known (λ s. has body.names s e) body.result

-- an action of the same monitor that gives no value
abbrev pub begins : Body → List TypedExpr → Action → Bool
begins body arguments action = action.monitor == body.names.monitor && have body.names action.params arguments && not (is_some action.result)

abbrev pub goes_to : Body → Option TypedExpr → Bool
goes_to body None = true
goes_to body (Some e) = has body.names shape.Context e

abbrev pub if_there : Option Bool → Bool
if_there None = true
if_there (Some b) = b

abbrev pub all_hold : List Bool → Bool
all_hold parts = list_all (λ h. h) parts

abbrev pub stmt_so : Body → Stmt-F Bool → Bool
stmt_so body (stmt.Block parts) = all_hold parts
stmt_so body (stmt.On site) = site_so body site
stmt_so body (stmt.Declare n s) = is_local body s n
stmt_so body (stmt.DeclareAs n e) = if_known (λ s. has body.names s e) (slice_get body.names.locals n)
stmt_so body (stmt.DeclareOn n site) = is_local body shape.Listener n && site_so body site
stmt_so body (stmt.Assign place e) = place_so body place && has body.names place.shape e
stmt_so body (stmt.AssignOn place site) = place_so body place && same place.shape shape.Listener && site_so body site
stmt_so body (stmt.If test part other) = has body.names shape.Boolean test && part && if_there other
stmt_so body (stmt.While test parts) = has body.names shape.Boolean test && all_hold parts
stmt_so body (stmt.For n items parts) = loops body n items && all_hold parts
stmt_so body stmt.Break = true
stmt_so body stmt.Continue = true
stmt_so body (stmt.Return e) = returns body e
stmt_so body stmt.Die = true
stmt_so body (stmt.Print text) = has body.names shape.Text text
stmt_so body (stmt.Log text level) = has body.names shape.Text text
stmt_so body (stmt.Route e) = passes body is_event e
stmt_so body (stmt.Send e to) = passes body is_event e && passes body is_channel to
stmt_so body (stmt.Spawn n arguments to) = if_known (begins body arguments) (slice_get body.names.actions n) && goes_to body to
stmt_so body (stmt.Subscribe channel) = has body.names shape.Text channel
stmt_so body (stmt.Unsubscribe channel) = has body.names shape.Text channel
stmt_so body (stmt.Call e) = holds body.names e

module _ (body : Body) where
  -- a statement whose numbers and shapes are as they should be
  abbrev pub stmt_holds : Stmt → Bool
  stmt_holds = fold-Stmt Bool (stmt_so body)

  abbrev pub row_holds : List Stmt → Bool
  row_holds row = all_hold (map stmt_holds row)
