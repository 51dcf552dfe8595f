-- Which typed statement a statement is, and what is visible behind it.
use Rattle.std.specs.Prelude.{ℕ, ◌+◌, ◌==◌, nat_lt, count_by, Bool, List, [], ◌∷◌, ◌++◌, map, length, Option, Some, None, slice_get, if◌then◌else◌, codes, ◌≡◌}
use Rattle.std.specs.List.{list_any}
use Rattle.epl_values.specs.declared.shape.Shape.{Shape, Shape-F, out-Shape}
use Rattle.epl_values.specs.declared.shape.Shape.TheOpen as layer
use Rattle.epl_values.specs.declared.shape.Shape.TheVariants as shape
use Rattle.epl_tree.specs.declared.expression.Expr.{Expr}
use Rattle.epl_tree.specs.declared.name.Name.{Name}
use Rattle.epl_tree.specs.declared.statement.Level.{Level}
use Rattle.epl_tree.specs.declared.statement.Place.{Place}
use Rattle.epl_tree.specs.declared.statement.Listening.{Listening, out-Listening}
use Rattle.epl_tree.specs.declared.statement.Stmt.{Stmt as Tree, out-Stmt}
use Rattle.epl_tree.specs.declared.statement.StmtNode.{StmtNode, StmtNode-F, out-StmtNode}
use Rattle.epl_tree.specs.declared.statement.StmtNode.TheOpen as tree
use Rattle.epl_tree.specs.declared.types.TypeExpr.{TypeExpr}
use Rattle.typed_program.specs.declared.expression.TypedExpr.{TypedExpr}
use Rattle.typed_program.specs.declared.program.Local.{Local}
use Rattle.typed_program.specs.declared.program.Site.{Site}
use Rattle.typed_program.specs.declared.statement.Stmt.{Stmt, Stmt-F}
use Rattle.typed_program.specs.declared.statement.Stmt.{out-Stmt as out-Typed}
use Rattle.typed_program.specs.declared.statement.Stmt.TheOpen as typed
use Rattle.typed_program.specs.declared.statement.TypedPlace.{TypedPlace}
use Rattle.typed_program.specs.declared.statement.Variable.{Variable}
use Rattle.typed_program.specs.declared.statement.Variable.TheVariants as variable
use Rattle.name_resolution.specs.Names.{Named, Meant, Around, held, meaning_of, place_of}
use Rattle.name_resolution.specs.Types.{TypeIs}
use Rattle.name_resolution.specs.Expressions.{shape_of, ExprIs, ExprsAre, StepsAre}
use Rattle.name_resolution.specs.Events.{TermIs}

-- a place in a body: the visible names, the number of the next local, and the locals so far
pub record Here : Type 0 where
  pub names : List Named
  pub next : ℕ
  pub locals : List Shape

abbrev pub shape_or_integer : Option Shape → Shape
shape_or_integer (Some s) = s
shape_or_integer None = shape.Integer

-- a local more
abbrev pub with_local : Here → List ℕ → Option Shape → Here
with_local h name s = record { names = h.names ++ record { name = name; meant = record { variable = variable.Local h.next; shape = s } } ∷ []; next = held (h.next + 1); locals = h.locals ++ shape_or_integer s ∷ [] }

-- behind a block its names are gone, and its locals stay
abbrev pub leaving : Here → Here → Here
leaving before h = record { names = before.names; next = h.next; locals = h.locals }

abbrev pub element_layer : Shape-F Shape → Option Shape
element_layer (layer.Sequence item) = Some item
element_layer s = None

abbrev pub element : Option Shape → Option Shape
element None = None
element (Some s) = element_layer (out-Shape s)

pub record PlaceIs (around : Around) (names : List Named) (p : Place) (q : TypedPlace) : Type 0 where
  pub meant : Meant
  pub there : meaning_of names p.name ≡ Some meant
  pub variable : q.variable ≡ meant.variable
  pub steps : StepsAre around names meant.shape p.steps q.steps

-- an expression that may be there
pub data MaybeIs (around : Around) (names : List Named) : Option Expr → Option TypedExpr → Type 0 where
  no_expr : MaybeIs around names None None
  an_expr : {e : Expr} {x : TypedExpr} → ExprIs around names e x → MaybeIs around names (Some e) (Some x)

-- ---- callbacks

-- the outer names in a callback: the globals, and of the others those that are captured, each by its place among these
abbrev pub is_captured : List Local → ℕ → Bool
is_captured captured n = list_any (λ c. c.number == n) captured

abbrev pub carry : List Local → List ℕ → Option Shape → Variable → List Named → List Named
carry captured name s (variable.Global g) names = record { name = name; meant = record { variable = variable.Global g; shape = s } } ∷ names
carry captured name s (variable.Local n) names = if is_captured captured n then record { name = name; meant = record { variable = variable.Local (held (count_by (λ c. nat_lt c.number n) captured)); shape = s } } ∷ names else names

abbrev pub carried : List Local → List Named → List Named
carried captured [] = []
carried captured (n ∷ names) = carry captured n.name n.meant.shape n.meant.variable (carried captured names)

-- the bound names in a callback stand behind the captured ones
abbrev pub moved : ℕ → Variable → Variable
moved count (variable.Global n) = variable.Global (held (count + n))
moved count (variable.Local n) = variable.Local (held (count + n))

abbrev pub moved_name : ℕ → Named → Named
moved_name count n = record { name = n.name; meant = record { variable = moved count n.meant.variable; shape = n.meant.shape } }

abbrev pub callback_start : List Named → List Local → List Named → Here
callback_start names captured bound = record { names = carried captured names ++ map (moved_name (length captured)) bound; next = held (length captured + length bound); locals = [] }

-- the names that an event expression binds are the bound ones of its site, in order
pub data BoundAre : List Named → List Local → Type 0 where
  none_bound : BoundAre [] []
  one_bound : {n : Named} {ns : List Named} {l : Local} {ls : List Local} → n.meant.variable ≡ variable.Local l.number → shape_or_integer n.meant.shape ≡ l.shape → BoundAre ns ls → BoundAre (n ∷ ns) (l ∷ ls)

-- ---- statements

abbrev pub StmtForm : Type 0
StmtForm = StmtNode-F StmtNode Listening Tree

abbrev pub stmt_form : Tree → StmtForm
stmt_form s = out-StmtNode (out-Stmt s).node

mutual
  pub data StmtIs (around : Around) (sites : List Site) : Here → Tree → Stmt → Here → Type 0 where
    is : {h h' : Here} {s : Tree} {t : Stmt} → NodeIs around sites h (stmt_form s) (out-Typed t) h' → StmtIs around sites h s t h'

  pub data NodeIs (around : Around) (sites : List Site) : Here → StmtForm → Stmt-F Stmt → Here → Type 0 where
    block : {h h' : Here} {ss : List Tree} {ts : List Stmt} → RowIs around sites h ss ts h' → NodeIs around sites h (tree.Block ss) (typed.Block ts) (leaving h h')
    on : {h : Here} {l : Listening} {n : ℕ} → ListenIs around sites h l n → NodeIs around sites h (tree.On l) (typed.On n) h
    declare : {h : Here} {w : TypeExpr} {name : Name} {s : Shape} → TypeIs around.types w s → NodeIs around sites h (tree.Declare w name) (typed.Declare h.next s) (with_local h name.text (Some s))
    declare_as : {h : Here} {w : TypeExpr} {name : Name} {s : Shape} {e : Expr} {x : TypedExpr} → TypeIs around.types w s → ExprIs around h.names e x → NodeIs around sites h (tree.DeclareAs w name e) (typed.DeclareAs h.next x) (with_local h name.text (Some s))
    declare_on : {h : Here} {w : TypeExpr} {name : Name} {s : Shape} {l : Listening} {n : ℕ} → TypeIs around.types w s → ListenIs around sites h l n → NodeIs around sites h (tree.DeclareOn w name l) (typed.DeclareOn h.next n) (with_local h name.text (Some s))
    assign : {h : Here} {p : Place} {q : TypedPlace} {e : Expr} {x : TypedExpr} → PlaceIs around h.names p q → ExprIs around h.names e x → NodeIs around sites h (tree.Assign p e) (typed.Assign q x) h
    assign_on : {h : Here} {p : Place} {q : TypedPlace} {l : Listening} {n : ℕ} → PlaceIs around h.names p q → ListenIs around sites h l n → NodeIs around sites h (tree.AssignOn p l) (typed.AssignOn q n) h
    branch : {h h' h'' : Here} {e : Expr} {x : TypedExpr} {s : Tree} {t : Stmt} {o : Option Tree} {u : Option Stmt} → ExprIs around h.names e x → StmtIs around sites h s t h' → OtherIs around sites (leaving h h') o u h'' → NodeIs around sites h (tree.If e s o) (typed.If x t u) h''
    while : {h h' : Here} {e : Expr} {x : TypedExpr} {ss : List Tree} {ts : List Stmt} → ExprIs around h.names e x → RowIs around sites h ss ts h' → NodeIs around sites h (tree.While e ss) (typed.While x ts) (leaving h h')
    for : {h h' : Here} {name : Name} {e : Expr} {x : TypedExpr} {ss : List Tree} {ts : List Stmt} → ExprIs around h.names e x → RowIs around sites (with_local h name.text (element (shape_of x))) ss ts h' → NodeIs around sites h (tree.For name e ss) (typed.For h.next x ts) (leaving h h')
    break : {h : Here} → NodeIs around sites h tree.Break typed.Break h
    continue : {h : Here} → NodeIs around sites h tree.Continue typed.Continue h
    return : {h : Here} {e : Option Expr} {x : Option TypedExpr} → MaybeIs around h.names e x → NodeIs around sites h (tree.Return e) (typed.Return x) h
    die : {h : Here} → NodeIs around sites h tree.Die typed.Die h
    print : {h : Here} {e : Expr} {x : TypedExpr} → ExprIs around h.names e x → NodeIs around sites h (tree.Print e) (typed.Print x) h
    log : {h : Here} {e : Expr} {x : TypedExpr} {level : Level} → ExprIs around h.names e x → NodeIs around sites h (tree.Log e level) (typed.Log x level) h
    route : {h : Here} {e : Expr} {x : TypedExpr} → ExprIs around h.names e x → NodeIs around sites h (tree.Route e) (typed.Route x) h
    send : {h : Here} {e f : Expr} {x y : TypedExpr} → ExprIs around h.names e x → ExprIs around h.names f y → NodeIs around sites h (tree.Send e f) (typed.Send x y) h
    spawn : {h : Here} {name : List ℕ} {n : ℕ} {es : List Expr} {xs : List TypedExpr} {to : Option Expr} {context : Option TypedExpr} → place_of around.actions name ≡ Some n → ExprsAre around h.names es xs → MaybeIs around h.names to context → NodeIs around sites h (tree.Spawn name es to) (typed.Spawn (held (around.first + n)) xs context) h
    subscribe : {h : Here} {e : Expr} {x : TypedExpr} → ExprIs around h.names e x → NodeIs around sites h (tree.Monitor (codes "subscribe") (e ∷ [])) (typed.Subscribe x) h
    unsubscribe : {h : Here} {e : Expr} {x : TypedExpr} → ExprIs around h.names e x → NodeIs around sites h (tree.Monitor (codes "unsubscribe") (e ∷ [])) (typed.Unsubscribe x) h
    call : {h : Here} {e : Expr} {x : TypedExpr} → ExprIs around h.names e x → NodeIs around sites h (tree.Call e) (typed.Call x) h

  -- statements in a row: each sees what those before it declare
  pub data RowIs (around : Around) (sites : List Site) : Here → List Tree → List Stmt → Here → Type 0 where
    no_stmts : {h : Here} → RowIs around sites h [] [] h
    a_stmt : {h h' h'' : Here} {s : Tree} {ss : List Tree} {t : Stmt} {ts : List Stmt} → StmtIs around sites h s t h' → RowIs around sites h' ss ts h'' → RowIs around sites h (s ∷ ss) (t ∷ ts) h''

  pub data OtherIs (around : Around) (sites : List Site) : Here → Option Tree → Option Stmt → Here → Type 0 where
    no_other : {h : Here} → OtherIs around sites h None None h
    other : {h h' : Here} {s : Tree} {t : Stmt} → StmtIs around sites h s t h' → OtherIs around sites h (Some s) (Some t) (leaving h h')

  -- a listener: its site has its event expression and its callback, a body of its own
  pub data ListenIs (around : Around) (sites : List Site) : Here → Listening → ℕ → Type 0 where
    listen : {h h' : Here} {l : Listening} {n : ℕ} {site : Site} {bound : List Named} {t : Stmt} → slice_get sites n ≡ Some site → BoundAre bound site.bound → TermIs (record { around = around; names = h.names ++ bound; bound = bound; operands = site.operands }) (out-Listening l).event site.term
        → StmtIs around sites (callback_start h.names site.captured bound) (out-Listening l).callback t h' → site.body ≡ t ∷ [] → site.locals ≡ h'.locals → ListenIs around sites h l n
