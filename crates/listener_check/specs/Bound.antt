-- The names that an event expression binds, and the scope of its operands: the names around it, and behind them those that
-- it binds in any of its templates, in order of the source, each once. A visible variable of that name goes before.
use Rattle.std.specs.Prelude.{ℕ, ◌-◌, Bool, ◌&&◌, not, if◌then◌else◌, List, [], ◌∷◌, ◌++◌, length, drop, map, Option, Some, None, is_some}
use Rattle.std.specs.List.{list_any}
use Rattle.std.specs.Str.{bytes_eq}
use Rattle.epl_values.specs.declared.shape.Shape.{Shape}
use Rattle.epl_values.specs.declared.shape.Shape.TheVariants as shape
use Rattle.epl_tree.specs.declared.event.EventExpr.{EventExpr, EventExpr-F, fold-EventExpr}
use Rattle.epl_tree.specs.declared.event.EventNode.{EventNode-F}
use Rattle.epl_tree.specs.declared.event.EventNode.TheOpen as node
use Rattle.epl_tree.specs.declared.event.TemplateClause.{TemplateClause}
use Rattle.epl_tree.specs.declared.event.TemplateClause.TheVariants as clause
use Rattle.typed_program.specs.declared.program.Local.{Local}
use Rattle.type_table.specs.declared.scope.Scope.{Scope}
use Rattle.type_table.specs.declared.scope.Seen.{Seen}
use Rattle.type_table.specs.declared.scope.SeenKind.TheVariants as kind
use Rattle.type_table.specs.declared.table.Table.{Table}
use Rattle.type_table.specs.Table.{event_of, seen_of}
use Rattle.listener_check.specs.Limits.{short}

-- the shape of an event type's number, if it has one
abbrev pub event_shape : Option ℕ → Option Shape
event_shape (Some n) = Some (shape.Event (short n))
event_shape None = None

module _ (table : Table) (outer : ℕ) where
  -- a bound name of an event type; its number is its place among those of its event expression
  abbrev pub seen_bound : Scope → List ℕ → List ℕ → Seen
  seen_bound scope event name = record { name = name; shape = event_shape (event_of table event); kind = kind.Bound; number = short (length scope.names - outer) }

  abbrev pub with_bound : List ℕ → List ℕ → Scope → Scope
  with_bound event name scope = if is_some (seen_of scope name) then scope else record scope { names = scope.names ++ seen_bound scope event name ∷ [] }

  abbrev pub clause_binds : List ℕ → TemplateClause → Scope → Scope
  clause_binds event (clause.As name) scope = with_bound event name.text scope
  clause_binds event (clause.Within duration) scope = scope

  abbrev pub clauses_bind : List ℕ → List TemplateClause → Scope → Scope
  clauses_bind event [] scope = scope
  clauses_bind event (c ∷ cs) scope = clauses_bind event cs (clause_binds event c scope)

  abbrev pub each : List (Scope → Scope) → Scope → Scope
  each [] scope = scope
  each (f ∷ fs) scope = each fs (f scope)

  abbrev pub node_step : EventNode-F (Scope → Scope) (Scope → Scope) → Scope → Scope
  node_step (node.Followed first rest) scope = each rest (first scope)
  node_step (node.Or first rest) scope = each rest (first scope)
  node_step (node.Xor first rest) scope = each rest (first scope)
  node_step (node.And first rest) scope = each rest (first scope)
  node_step (node.All x) scope = x scope
  node_step (node.Not x) scope = x scope
  node_step (node.Group x within) scope = x scope
  node_step (node.Wait duration) scope = scope
  node_step (node.Template t) scope = clauses_bind t.event t.clauses scope

  abbrev pub expr_step : EventExpr-F (Scope → Scope) (Scope → Scope) → Scope → Scope
  expr_step e = e.node

  abbrev pub binds : EventExpr → Scope → Scope
  binds = fold-EventExpr (Scope → Scope) (Scope → Scope) node_step expr_step

  abbrev pub all_bind : List EventExpr → Scope → Scope
  all_bind trees = each (map binds trees)

-- the scope of the operands
abbrev pub inner_of : Table → Scope → EventExpr → Scope
inner_of table scope tree = binds table (length scope.names) tree scope

-- whether a name is one of these
abbrev pub is_among : List (List ℕ) → List ℕ → Bool
is_among names name = list_any (λ n. bytes_eq n name) names

-- whether a name is one that the event expression binds
abbrev pub is_own : Scope → Scope → List ℕ → Bool
is_own scope inner name = not (is_some (seen_of scope name)) && is_some (seen_of inner name)

abbrev pub local_shape : Option Shape → Shape
local_shape (Some s) = s
local_shape None = shape.Integer

abbrev pub local_of : Seen → Local
local_of s = record { number = s.number; shape = local_shape s.shape }

-- the bound names
abbrev pub bound_of : Scope → Scope → List Local
bound_of scope inner = map local_of (drop (length scope.names) inner.names)
