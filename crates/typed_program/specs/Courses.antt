-- The rules of statements: what is visible where, what may be assigned, where loops and bodies end, and what callbacks see.
use Rattle.std.specs.Prelude.{◌&&◌, ◌==◌, ◌∷◌, ◌++◌, if◌then◌else◌}
use Rattle.typed_program.specs.Common.{ℕ, suc, Bool, true, false, not, nat_le, nat_lt, List, [], map, length, Option, Some, None, is_some, slice_get, list_all, list_any, Shape}
use Rattle.typed_program.specs.declared.expression.TypedExpr.{TypedExpr}
use Rattle.typed_program.specs.declared.program.Local.{Local}
use Rattle.typed_program.specs.declared.program.Site.{Site}
use Rattle.typed_program.specs.declared.statement.Stmt.{Stmt, Stmt-F, fold-Stmt}
use Rattle.typed_program.specs.declared.statement.Stmt.TheOpen as stmt
use Rattle.typed_program.specs.declared.statement.TypedPlace.{TypedPlace}
use Rattle.typed_program.specs.declared.statement.Variable.{Variable}
use Rattle.typed_program.specs.declared.statement.Variable.TheVariants as variable
use Rattle.typed_program.specs.Shapes.{is_reference}
use Rattle.typed_program.specs.Expressions.{Names, if_known}
use Rattle.typed_program.specs.Paths.{Kind, Free, Held, Bound, Visible, Sight, Root, root_of, global_root, visible_at, is_reference_of, plain, may_change, end_of, goes, path_of, going_of}

-- what a statement leaves visible, and whether it keeps the rules
pub record Course : Type 0 where
  pub visible : List Visible
  pub lawful : Bool

-- a statement where these names are visible, in a loop of its body or not
abbrev pub Reading : Type 0
Reading = List Visible → Bool → Course

-- ---- callbacks

-- how a callback sees a name that it takes along: of those of reference type these are co-assignments alone
abbrev pub kind_inside : Shape → Kind
kind_inside s = if is_reference s then Bound else Free

-- the names that it takes along, at their places among those
abbrev pub captured_from : ℕ → List Local → List Visible
captured_from at [] = []
captured_from at (c ∷ cs) = record { number = at; kind = kind_inside c.shape } ∷ captured_from (suc at) cs

abbrev pub bound_from : ℕ → List Local → List Visible
bound_from at [] = []
bound_from at (b ∷ bs) = record { number = at; kind = Bound } ∷ bound_from (suc at) bs

-- where a callback begins: it sees the captured names, and then the bound ones
abbrev pub callback_sees : Site → List Visible
callback_sees site = captured_from 0 site.captured ++ bound_from (length site.captured) site.bound

-- numbers in ascending order
abbrev pub ascend : List ℕ → Bool
ascend [] = true
ascend (n ∷ []) = true
ascend (n ∷ m ∷ ns) = nat_lt n m && ascend (m ∷ ns)

-- of names of reference type a callback takes along co-assignments alone, and a co-assignment is of reference type
abbrev pub may_take : Bool → Kind → Bool
may_take reference Bound = reference
may_take reference k = not reference

-- a captured name is visible around the `on`, and may be taken along
abbrev pub takes : List Visible → Local → Bool
takes visible c = if_known (λ v. may_take (is_reference c.shape) v.kind) (visible_at visible c.number)

-- ---- statements

abbrev pub open_course : List Visible → Bool → Course
open_course visible lawful = record { visible = visible; lawful = lawful }

-- what a part declares is visible in it alone
abbrev pub scoped : Reading → List Visible → Bool → Bool
scoped m visible looped = (m visible looped).lawful

abbrev pub row_of : List Reading → Reading
row_of [] visible looped = open_course visible true
row_of (m ∷ ms) visible looped = let first = m visible looped in let rest = row_of ms first.visible looped in open_course rest.visible (first.lawful && rest.lawful)

abbrev pub with_local : ℕ → Kind → List Visible → List Visible
with_local n kind visible = visible ++ record { number = n; kind = kind } ∷ []

abbrev pub if_there : Option Reading → List Visible → Bool → Bool
if_there None visible looped = true
if_there (Some m) visible looped = scoped m visible looped

module _ (names : Names) (sites : List Site) (special : List ℕ) (from : ℕ) where
  abbrev pub sees : List Visible → Sight
  sees visible = record { visible = visible; special = special }

  abbrev pub is_plain : List Visible → TypedExpr → Bool
  is_plain visible e = plain (path_of (sees visible) e)

  abbrev pub is_lawful : List Visible → TypedExpr → Bool
  is_lawful visible e = (path_of (sees visible) e).lawful

  -- a listener of a site, whose number is one of those from the given one on: its operands here, and the names that its
  -- callback takes along
  abbrev pub listens : List Visible → ℕ → Site → Bool
  listens visible n site = nat_le from n && list_all (is_plain visible) site.operands && list_all (takes visible) site.captured

  abbrev pub listens_at : List Visible → ℕ → Bool
  listens_at visible n = if_known (listens visible n) (slice_get sites n)

  abbrev pub place_root : List Visible → Variable → Option Root
  place_root visible (variable.Global n) = Some global_root
  place_root visible (variable.Local n) = elim (visible_at visible n) [ None ↦ None | Some v ↦ Some (root_of (is_reference_of (slice_get names.locals n)) v) ]

  abbrev pub is_there : Option Root → Bool
  is_there root = is_some root

  -- a place that is assigned: a visible variable, steps that keep the rules, and an end that may be changed
  abbrev pub assigns : List Visible → TypedPlace → Bool
  assigns visible place = let root = place_root visible place.variable in let steps = map (going_of (sees visible)) place.steps in is_there root && goes root steps && may_change (end_of root steps)

  abbrev pub returns : List Visible → Option TypedExpr → Bool
  returns visible None = true
  returns visible (Some e) = is_plain visible e

  abbrev pub stmt_reading : Stmt-F Reading → Reading
  stmt_reading (stmt.Block parts) visible looped = open_course visible (scoped (row_of parts) visible looped)
  stmt_reading (stmt.On site) visible looped = open_course visible (listens_at visible site)
  stmt_reading (stmt.Declare n s) visible looped = open_course (with_local n Free visible) true
  stmt_reading (stmt.DeclareAs n e) visible looped = open_course (with_local n Free visible) (is_plain visible e)
  stmt_reading (stmt.DeclareOn n site) visible looped = open_course (with_local n Free visible) (listens_at visible site)
  stmt_reading (stmt.Assign place e) visible looped = open_course visible (assigns visible place && is_plain visible e)
  stmt_reading (stmt.AssignOn place site) visible looped = open_course visible (assigns visible place && listens_at visible site)
  stmt_reading (stmt.If test part other) visible looped = open_course visible (is_plain visible test && scoped part visible looped && if_there other visible looped)
  stmt_reading (stmt.While test parts) visible looped = open_course visible (is_plain visible test && scoped (row_of parts) visible true)
  stmt_reading (stmt.For n items parts) visible looped = open_course visible (is_lawful visible items && scoped (row_of parts) (with_local n Held visible) true)
  stmt_reading stmt.Break visible looped = open_course visible looped
  stmt_reading stmt.Continue visible looped = open_course visible looped
  stmt_reading (stmt.Return e) visible looped = open_course visible (returns visible e)
  stmt_reading stmt.Die visible looped = open_course visible true
  stmt_reading (stmt.Print text) visible looped = open_course visible (is_plain visible text)
  stmt_reading (stmt.Log text level) visible looped = open_course visible (is_plain visible text)
  stmt_reading (stmt.Route e) visible looped = open_course visible (is_lawful visible e)
  stmt_reading (stmt.Send e to) visible looped = open_course visible (is_lawful visible e && is_plain visible to)
  stmt_reading (stmt.Spawn n es to) visible looped = open_course visible (not (list_any (λ m. m == n) special) && list_all (is_plain visible) es && returns visible to)
  stmt_reading (stmt.Subscribe channel) visible looped = open_course visible (is_plain visible channel)
  stmt_reading (stmt.Unsubscribe channel) visible looped = open_course visible (is_plain visible channel)
  stmt_reading (stmt.Call e) visible looped = open_course visible (is_plain visible e)

  abbrev pub reading_of : Stmt → Reading
  reading_of = fold-Stmt Reading stmt_reading

  -- a body where these names are visible
  abbrev pub runs : List Stmt → List Visible → Bool
  runs body visible = (row_of (map reading_of body) visible false).lawful

-- ---- ends

-- as the last statement of a row, and as a part of an `if`: it is a `return`, or an `if` whose both parts end so; a part in
-- braces ends as its row does
pub record Ending : Type 0 where
  pub last : Bool
  pub part : Bool

abbrev pub last_ends : List Ending → Bool
last_ends [] = false
last_ends (s ∷ []) = s.last
last_ends (s ∷ t ∷ rest) = last_ends (t ∷ rest)

abbrev pub alike : Bool → Ending
alike b = record { last = b; part = b }

abbrev pub both_end : Ending → Option Ending → Bool
both_end part None = false
both_end part (Some other) = part.part && other.part

abbrev pub ending_step : Stmt-F Ending → Ending
ending_step (stmt.Return e) = alike true
ending_step (stmt.If test part other) = alike (both_end part other)
ending_step (stmt.Block parts) = record { last = false; part = last_ends parts }
ending_step s = alike false

abbrev pub ends_with_return : List Stmt → Bool
ends_with_return body = last_ends (map (fold-Stmt Ending ending_step) body)
