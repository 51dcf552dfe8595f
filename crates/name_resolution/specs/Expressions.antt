-- Which typed expression an expression is: the same form over the same parts in the same order, each name by its number.
use Rattle.std.specs.Prelude.{ℕ, ◌+◌, ◌-◌, ◌*◌, pos, neg_ℤ, Bool, List, [], ◌∷◌, Option, Some, None, slice_get, ◌≡◌}
use Rattle.epl_values.specs.declared.shape.EventShape.{EventShape}
use Rattle.epl_values.specs.declared.shape.Field.{Field}
use Rattle.epl_values.specs.declared.shape.Shape.{Shape, out-Shape}
use Rattle.epl_values.specs.declared.shape.Shape.TheOpen as shape
use Rattle.epl_tree.specs.declared.types.TypeExpr.{TypeExpr}
use Rattle.epl_tree.specs.declared.expression.Comparison.{Comparison}
use Rattle.epl_tree.specs.declared.expression.Entry.{Entry, out-Entry}
use Rattle.epl_tree.specs.declared.expression.Expr.{Expr, out-Expr}
use Rattle.epl_tree.specs.declared.expression.ExprNode.{ExprNode, ExprNode-F, out-ExprNode}
use Rattle.epl_tree.specs.declared.expression.ExprNode.TheOpen as tree
use Rattle.epl_tree.specs.declared.expression.Link.{Link, out-Link}
use Rattle.epl_tree.specs.declared.expression.Suffix.{Suffix, out-Suffix}
use Rattle.epl_tree.specs.declared.expression.SuffixNode.{SuffixNode, SuffixNode-F, out-SuffixNode}
use Rattle.typed_program.specs.declared.expression.Method.{Method}
use Rattle.typed_program.specs.declared.expression.TypedEntry.{TypedEntry, out-TypedEntry}
use Rattle.typed_program.specs.declared.expression.TypedExpr.{TypedExpr, out-TypedExpr}
use Rattle.typed_program.specs.declared.expression.TypedLink.{TypedLink, out-TypedLink}
use Rattle.typed_program.specs.declared.expression.TypedNode.{TypedNode, TypedNode-F, out-TypedNode}
use Rattle.typed_program.specs.declared.expression.TypedNode.TheOpen as typed
use Rattle.typed_program.specs.declared.expression.TypedSuffix.{TypedSuffix, out-TypedSuffix}
use Rattle.typed_program.specs.declared.expression.TypedSuffixNode.{TypedSuffixNode, TypedSuffixNode-F, out-TypedSuffixNode}
use Rattle.typed_program.specs.declared.statement.Variable.{Variable}
use Rattle.typed_program.specs.declared.statement.Variable.TheVariants as variable
use Rattle.name_resolution.specs.Names.{Named, Meant, Around, held, meaning_of, place_of, type_named, field_named, written}
use Rattle.name_resolution.specs.Types.{TypeIs}

-- the form of an expression, and that of a step behind a value
abbrev pub Form : Type 0
Form = ExprNode-F ExprNode SuffixNode Entry Expr Link Suffix

abbrev pub form_of : Expr → Form
form_of e = out-ExprNode (out-Expr e).node

abbrev pub Step : Type 0
Step = SuffixNode-F ExprNode SuffixNode Entry Expr Link Suffix

abbrev pub step_of : Suffix → Step
step_of u = out-SuffixNode (out-Suffix u).node

-- the same of typed expressions
abbrev pub TypedForm : Type 0
TypedForm = TypedNode-F TypedNode TypedSuffixNode TypedEntry TypedExpr TypedLink TypedSuffix

abbrev pub typed_form : TypedExpr → TypedForm
typed_form x = out-TypedNode (out-TypedExpr x).node

abbrev pub TypedStep : Type 0
TypedStep = TypedSuffixNode-F TypedNode TypedSuffixNode TypedEntry TypedExpr TypedLink TypedSuffix

abbrev pub typed_step : TypedSuffix → TypedStep
typed_step y = out-TypedSuffixNode (out-TypedSuffix y).node

abbrev pub shape_of : TypedExpr → Option Shape
shape_of x = (out-TypedExpr x).shape

abbrev pub variable_form : Variable → TypedForm
variable_form (variable.Global n) = typed.Global n
variable_form (variable.Local n) = typed.Local n

-- the number that digits write, behind those of another
abbrev pub number_behind : ℕ → List ℕ → ℕ
number_behind n [] = n
number_behind n (digit ∷ digits) = number_behind (n * 10 + (digit - 48)) digits

abbrev pub number : List ℕ → ℕ
number digits = number_behind 0 digits

mutual
  pub data ExprIs (around : Around) (names : List Named) : Expr → TypedExpr → Type 0 where
    is : {e : Expr} {x : TypedExpr} → FormIs around names (form_of e) x → ExprIs around names e x

  -- parentheses leave nothing; the type of `new` is the shape of the expression, and a variable has its shape
  pub data FormIs (around : Around) (names : List Named) : Form → TypedExpr → Type 0 where
    group : {e : Expr} {x : TypedExpr} → ExprIs around names e x → FormIs around names (tree.Group e) x
    new : {w : TypeExpr} {s : Shape} {x : TypedExpr} → TypeIs around.types w s → shape_of x ≡ Some s → typed_form x ≡ typed.Default → FormIs around names (tree.New w) x
    name : {name : List ℕ} {m : Meant} {x : TypedExpr} → meaning_of names name ≡ Some m → shape_of x ≡ m.shape → typed_form x ≡ variable_form m.variable → FormIs around names (tree.Name name) x
    form : {f : Form} {x : TypedExpr} → NodeIs around names f (typed_form x) → FormIs around names f x

  pub data NodeIs (around : Around) (names : List Named) : Form → TypedForm → Type 0 where
    or : {e : Expr} {es : List Expr} {x : TypedExpr} {xs : List TypedExpr} → ExprIs around names e x → ExprsAre around names es xs → NodeIs around names (tree.Or e es) (typed.Or x xs)
    xor : {e : Expr} {es : List Expr} {x : TypedExpr} {xs : List TypedExpr} → ExprIs around names e x → ExprsAre around names es xs → NodeIs around names (tree.Xor e es) (typed.Xor x xs)
    and : {e : Expr} {es : List Expr} {x : TypedExpr} {xs : List TypedExpr} → ExprIs around names e x → ExprsAre around names es xs → NodeIs around names (tree.And e es) (typed.And x xs)
    negation : {e : Expr} {x : TypedExpr} → ExprIs around names e x → NodeIs around names (tree.Not e) (typed.Not x)
    compare : {e d : Expr} {c : Comparison} {x y : TypedExpr} → ExprIs around names e x → ExprIs around names d y → NodeIs around names (tree.Compare e c d) (typed.Compare x c y)
    sum : {e : Expr} {ls : List Link} {x : TypedExpr} {ys : List TypedLink} → ExprIs around names e x → LinksAre around names ls ys → NodeIs around names (tree.Sum e ls) (typed.Sum x ys)
    product : {e : Expr} {ls : List Link} {x : TypedExpr} {ys : List TypedLink} → ExprIs around names e x → LinksAre around names ls ys → NodeIs around names (tree.Product e ls) (typed.Product x ys)
    minus : {e : Expr} {x : TypedExpr} → ExprIs around names e x → NodeIs around names (tree.Minus e) (typed.Minus x)
    negative : {e : Expr} {digits : List ℕ} → form_of e ≡ tree.Integer digits → NodeIs around names (tree.Minus e) (typed.Integer (neg_ℤ (pos (number digits))))
    integer : {digits : List ℕ} → NodeIs around names (tree.Integer digits) (typed.Integer (pos (number digits)))
    quoted : {text : List ℕ} → NodeIs around names (tree.Quoted text) (typed.Text text)
    boolean : {b : Bool} → NodeIs around names (tree.Boolean b) (typed.Boolean b)
    event : {name : List ℕ} {n : ℕ} {es : List Expr} {xs : List TypedExpr} → type_named around.types name ≡ Some n → ExprsAre around names es xs → NodeIs around names (tree.Call name es) (typed.Event (held n) xs)
    action : {name : List ℕ} {n : ℕ} {es : List Expr} {xs : List TypedExpr} → place_of around.actions name ≡ Some n → ExprsAre around names es xs → NodeIs around names (tree.Call name es) (typed.Action (held (around.first + n)) xs)
    sequence : {es : List Expr} {xs : List TypedExpr} → ExprsAre around names es xs → NodeIs around names (tree.Sequence es) (typed.Sequence xs)
    dictionary : {ds : List Entry} {ys : List TypedEntry} → EntriesAre around names ds ys → NodeIs around names (tree.Dictionary ds) (typed.Dictionary ys)
    context : {es : List Expr} {xs : List TypedExpr} → ExprsAre around names es xs → NodeIs around names (tree.Context es) (typed.Context xs)
    current : NodeIs around names tree.ContextCurrent typed.ContextCurrent
    postfix : {e : Expr} {us : List Suffix} {x : TypedExpr} {ys : List TypedSuffix} → ExprIs around names e x → StepsAre around names (shape_of x) us ys → NodeIs around names (tree.Postfix e us) (typed.Postfix x ys)

  pub data ExprsAre (around : Around) (names : List Named) : List Expr → List TypedExpr → Type 0 where
    no_exprs : ExprsAre around names [] []
    expr : {e : Expr} {es : List Expr} {x : TypedExpr} {xs : List TypedExpr} → ExprIs around names e x → ExprsAre around names es xs → ExprsAre around names (e ∷ es) (x ∷ xs)

  -- each operator with the operand behind it
  pub data LinksAre (around : Around) (names : List Named) : List Link → List TypedLink → Type 0 where
    no_links : LinksAre around names [] []
    link : {l : Link} {ls : List Link} {y : TypedLink} {ys : List TypedLink} → (out-TypedLink y).operator ≡ (out-Link l).operator → ExprIs around names (out-Link l).operand (out-TypedLink y).operand → LinksAre around names ls ys → LinksAre around names (l ∷ ls) (y ∷ ys)

  -- each key with its value
  pub data EntriesAre (around : Around) (names : List Named) : List Entry → List TypedEntry → Type 0 where
    no_entries : EntriesAre around names [] []
    entry : {d : Entry} {ds : List Entry} {y : TypedEntry} {ys : List TypedEntry} → ExprIs around names (out-Entry d).key (out-TypedEntry y).key → ExprIs around names (out-Entry d).value (out-TypedEntry y).value → EntriesAre around names ds ys → EntriesAre around names (d ∷ ds) (y ∷ ys)

  -- steps behind a value of a shape
  pub data StepsAre (around : Around) (names : List Named) : Option Shape → List Suffix → List TypedSuffix → Type 0 where
    no_steps : {s : Option Shape} → StepsAre around names s [] []
    step : {s : Option Shape} {u : Suffix} {us : List Suffix} {y : TypedSuffix} {ys : List TypedSuffix} → StepIs around names s (step_of u) (typed_step y) (out-TypedSuffix y).shape → StepsAre around names (out-TypedSuffix y).shape us ys → StepsAre around names s (u ∷ us) (y ∷ ys)

  -- from a shape to a shape; behind a value without one nothing is said, since a well typed program has no step there
  pub data StepIs (around : Around) (names : List Named) : Option Shape → Step → TypedStep → Option Shape → Type 0 where
    field : {s : Shape} {t n : ℕ} {event : EventShape} {name : List ℕ} {f : Field} → out-Shape s ≡ shape.Event t → slice_get around.types t ≡ Some event → field_named event.fields name ≡ Some n → slice_get event.fields n ≡ Some f → StepIs around names (Some s) (tree.Field name) (typed.Field (held n)) (Some f.shape)
    item : {s item : Shape} {e : Expr} {x : TypedExpr} → out-Shape s ≡ shape.Sequence item → ExprIs around names e x → StepIs around names (Some s) (tree.Index e) (typed.Item x) (Some item)
    key : {s key value : Shape} {e : Expr} {x : TypedExpr} → out-Shape s ≡ shape.Dictionary key value → ExprIs around names e x → StepIs around names (Some s) (tree.Index e) (typed.Key x) (Some value)
    method : {s to : Option Shape} {name : List ℕ} {m : Method} {es : List Expr} {xs : List TypedExpr} → name ≡ written m → ExprsAre around names es xs → StepIs around names s (tree.Method name es) (typed.Method m xs) to
    unshaped : {u : Step} {y : TypedStep} {to : Option Shape} → StepIs around names None u y to
