-- Which locals of its body a part names, by their numbers: in expressions, in places, and in what an inner `on` evaluates and
-- takes along.
use Rattle.std.specs.Prelude.{◌&&◌, ◌||◌, ◌==◌, ◌∷◌}
use Rattle.typed_program.specs.Common.{ℕ, suc, Bool, true, false, List, [], map, Option, Some, None, slice_get, list_any}
use Rattle.typed_program.specs.declared.expression.TypedExpr.{TypedExpr}
use Rattle.typed_program.specs.declared.expression.TypedSuffix.{TypedSuffix}
use Rattle.typed_program.specs.declared.expression.TypedNode.TheOpen.{TypedNode-F, TypedSuffixNode-F, TypedEntry-F, TypedExpr-F, TypedLink-F, TypedSuffix-F}
use Rattle.typed_program.specs.declared.expression.TypedNode.TheFolds.{fold-TypedExpr, fold-TypedSuffix}
use Rattle.typed_program.specs.declared.program.Local.{Local}
use Rattle.typed_program.specs.declared.program.Site.{Site}
use Rattle.typed_program.specs.declared.statement.Stmt.{Stmt, Stmt-F, fold-Stmt}
use Rattle.typed_program.specs.declared.statement.Stmt.TheOpen as stmt
use Rattle.typed_program.specs.declared.statement.TypedPlace.{TypedPlace}
use Rattle.typed_program.specs.declared.statement.Variable.{Variable}
use Rattle.typed_program.specs.declared.statement.Variable.TheVariants as variable

-- whether a local is named, by its number
abbrev pub Mention : Type 0
Mention = ℕ → Bool

abbrev pub none : Mention
none n = false

abbrev pub either : Mention → Mention → Mention
either a b n = a n || b n

abbrev pub any_of : List Mention → Mention
any_of parts n = list_any (λ p. p n) parts

abbrev pub if_any : Option Mention → Mention
if_any None = none
if_any (Some part) = part

-- ---- expressions

abbrev pub node_mentions : TypedNode-F Mention Mention Mention Mention Mention Mention → Mention
node_mentions (TypedNode-F.Integer value) = none
node_mentions (TypedNode-F.Text text) = none
node_mentions (TypedNode-F.Boolean b) = none
node_mentions (TypedNode-F.Global global) = none
node_mentions (TypedNode-F.Local local) = λ n. local == n
node_mentions (TypedNode-F.Or first rest) = either first (any_of rest)
node_mentions (TypedNode-F.Xor first rest) = either first (any_of rest)
node_mentions (TypedNode-F.And first rest) = either first (any_of rest)
node_mentions (TypedNode-F.Not e) = e
node_mentions (TypedNode-F.Compare left c right) = either left right
node_mentions (TypedNode-F.Sum first rest) = either first (any_of rest)
node_mentions (TypedNode-F.Product first rest) = either first (any_of rest)
node_mentions (TypedNode-F.Minus e) = e
node_mentions (TypedNode-F.Postfix first steps) = either first (any_of steps)
node_mentions (TypedNode-F.Action action arguments) = any_of arguments
node_mentions (TypedNode-F.Event event arguments) = any_of arguments
node_mentions (TypedNode-F.Sequence items) = any_of items
node_mentions (TypedNode-F.Dictionary pairs) = any_of pairs
node_mentions TypedNode-F.Default = none
node_mentions (TypedNode-F.Context arguments) = any_of arguments
node_mentions TypedNode-F.ContextCurrent = none
node_mentions (TypedNode-F.Tenths value) = none

abbrev pub step_mentions : TypedSuffixNode-F Mention Mention Mention Mention Mention Mention → Mention
step_mentions (TypedSuffixNode-F.Field field) = none
step_mentions (TypedSuffixNode-F.Item index) = index
step_mentions (TypedSuffixNode-F.Key key) = key
step_mentions (TypedSuffixNode-F.Method m arguments) = any_of arguments

abbrev pub entry_mentions : TypedEntry-F Mention Mention Mention Mention Mention Mention → Mention
entry_mentions e = either e.key e.value

abbrev pub expr_mentions : TypedExpr-F Mention Mention Mention Mention Mention Mention → Mention
expr_mentions e = e.node

abbrev pub link_mentions : TypedLink-F Mention Mention Mention Mention Mention Mention → Mention
link_mentions l = l.operand

abbrev pub suffix_mentions : TypedSuffix-F Mention Mention Mention Mention Mention Mention → Mention
suffix_mentions u = u.node

abbrev pub mentions : TypedExpr → Mention
mentions = fold-TypedExpr Mention Mention Mention Mention Mention Mention node_mentions step_mentions entry_mentions expr_mentions link_mentions suffix_mentions

abbrev pub steps_mention : List TypedSuffix → Mention
steps_mention us = any_of (map (fold-TypedSuffix Mention Mention Mention Mention Mention Mention node_mentions step_mentions entry_mentions expr_mentions link_mentions suffix_mentions) us)

abbrev pub all_mention : List TypedExpr → Mention
all_mention es = any_of (map mentions es)

abbrev pub maybe_mentions : Option TypedExpr → Mention
maybe_mentions None = none
maybe_mentions (Some e) = mentions e

-- ---- statements

abbrev pub variable_mentions : Variable → Mention
variable_mentions (variable.Global global) = none
variable_mentions (variable.Local local) = λ n. local == n

abbrev pub place_mentions : TypedPlace → Mention
place_mentions place = either (variable_mentions place.variable) (steps_mention place.steps)

-- what an `on` evaluates, and what its callback takes along
abbrev pub site_mentions : Option Site → Mention
site_mentions None = none
site_mentions (Some site) = either (all_mention site.operands) (λ n. list_any (λ c. c.number == n) site.captured)

module _ (sites : List Site) where
  abbrev pub listening : ℕ → Mention
  listening site = site_mentions (slice_get sites site)

  abbrev pub stmt_step : Stmt-F Mention → Mention
  stmt_step (stmt.Block parts) = any_of parts
  stmt_step (stmt.On site) = listening site
  stmt_step (stmt.Declare local s) = none
  stmt_step (stmt.DeclareAs local e) = mentions e
  stmt_step (stmt.DeclareOn local site) = listening site
  stmt_step (stmt.Assign place e) = either (place_mentions place) (mentions e)
  stmt_step (stmt.AssignOn place site) = either (place_mentions place) (listening site)
  stmt_step (stmt.If test part other) = either (mentions test) (either part (if_any other))
  stmt_step (stmt.While test parts) = either (mentions test) (any_of parts)
  stmt_step (stmt.For local items parts) = either (mentions items) (any_of parts)
  stmt_step stmt.Break = none
  stmt_step stmt.Continue = none
  stmt_step (stmt.Return e) = maybe_mentions e
  stmt_step stmt.Die = none
  stmt_step (stmt.Print text) = mentions text
  stmt_step (stmt.Log text level) = mentions text
  stmt_step (stmt.Route e) = mentions e
  stmt_step (stmt.Send e to) = either (mentions e) (mentions to)
  stmt_step (stmt.Spawn action arguments to) = either (all_mention arguments) (maybe_mentions to)
  stmt_step (stmt.Subscribe channel) = mentions channel
  stmt_step (stmt.Unsubscribe channel) = mentions channel
  stmt_step (stmt.Call e) = mentions e

  abbrev pub stmt_mentions : Stmt → Mention
  stmt_mentions = fold-Stmt Mention stmt_step

  abbrev pub body_mentions : List Stmt → Mention
  body_mentions body = any_of (map stmt_mentions body)

-- names whose places begin with this one are each named
abbrev pub all_named : Mention → ℕ → List Local → Bool
all_named mention at [] = true
all_named mention at (c ∷ cs) = mention at && all_named mention (suc at) cs

-- a callback names each name that it takes along
abbrev pub names_captured : List Site → Site → Bool
names_captured sites site = all_named (body_mentions sites site.body) 0 site.captured
