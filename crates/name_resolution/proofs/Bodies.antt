-- What is to hold of each part in which no fault is found: of expressions, event expressions and statements in a row.
use Rattle.std.specs.Prelude.{ℕ, ◌+◌, ◌≤◌, ◌≡◌, true, false, List, [], ◌++◌, map, length, Some, slice_get}
use Rattle.epl_tree.specs.declared.event.EventExpr.{EventExpr}
use Rattle.epl_tree.specs.declared.expression.Expr.{Expr}
use Rattle.epl_tree.specs.declared.statement.Stmt.{Stmt as Tree}
use Rattle.typed_program.specs.declared.program.Site.{Site}
use Rattle.type_table.specs.declared.scope.Scope.{Scope}
use Rattle.type_table.specs.declared.table.ActionHead.{ActionHead}
use Rattle.type_table.specs.declared.table.Table.{Table}
use Rattle.expr_rules.specs.Asked.{Demand}
use Rattle.expr_check.specs.Expressions.{expr_found}
use Rattle.listener_check.specs.Terms.{term_found}
use Rattle.stmt_check.specs.declared.state.State.{State}
use Rattle.stmt_check.specs.Bodies.{action_named}
use Rattle.stmt_check.specs.Bodies.{Around as Body}
use Rattle.stmt_check.specs.Captures.{Names, expr_names, event_names}
use Rattle.stmt_check.specs.Statements.{row_read, part_of}
use Rattle.name_resolution.specs.Names.{Named, Around}
use Rattle.name_resolution.proofs.Seeing.{Agrees, ActionIs, ActionsAgree}
use Rattle.name_resolution.specs.Expressions.{ExprIs}
use Rattle.name_resolution.specs.Events.{TermIs}
use Rattle.name_resolution.specs.Statements.{Here, BoundAre, RowIs}

-- an expression at a place
abbrev pub ExpressionsResolve : Type 0
ExpressionsResolve = (table : Table) (scope : Scope) (around : Around) (names : List Named) → table.types ≡ around.types → ActionsAgree table scope around.actions around.first
    → (e : Expr) → Agrees names scope (expr_names e) → (demand : Demand) → demand.signed ≡ false → (expr_found table scope e demand).faults ≡ [] → ExprIs around names e (expr_found table scope e demand).part

-- a body: its table speaks of the same event types and actions
pub record Fit (around : Around) (monitor callbacks : ℕ) (body : Body) : Type 0 where
  pub types : body.table.types ≡ around.types
  pub acts : (scope : Scope) → scope.monitor ≡ monitor → scope.actions ≡ true → ActionsAgree body.table scope around.actions around.first
  pub spawned : (name : List ℕ) (head : ActionHead) → action_named body.table monitor name ≡ Some head → ActionIs around.actions around.first name head
  pub callbacks_are : body.callbacks ≡ callbacks

-- an event expression in a scope of a body
pub record EventResolves (table : Table) (scope : Scope) (around : Around) (names : List Named) (e : EventExpr) : Type 0 where
  pub bound : List Named
  pub bound_are : BoundAre bound (term_found table scope e).part.bound
  pub resolved : TermIs (record { around = around; names = names ++ bound; bound = bound; operands = (term_found table scope e).part.operands }) e (term_found table scope e).part.term

abbrev pub EventsResolve : Type 0
EventsResolve = (around : Around) (monitor callbacks : ℕ) (body : Body) → Fit around monitor callbacks body → (scope : Scope) → scope.monitor ≡ monitor → scope.actions ≡ true
    → (names : List Named) (e : EventExpr) → Agrees names scope (event_names e) → (term_found body.table scope e).faults ≡ [] → EventResolves body.table scope around names e

-- what is visible at a state
pub record Matches (named : Names) (h : Here) (s : State) : Type 0 where
  pub names : Agrees h.names s.scope named
  pub next : h.next ≡ s.next
  pub locals : h.locals ≡ s.locals

module _ (finished : List Site) (monitor : ℕ) where
  -- the text of an action of the monitor
  pub record Ready (s : State) : Type 0 where
    pub own : s.scope.monitor ≡ monitor
    pub actions : s.scope.actions ≡ true

  -- the finished sites have those that were made between two states
  pub record Fits (callbacks : ℕ) (s t : State) : Type 0 where
    pub at : (i : ℕ) (x : Site) → length s.sites ≤ i → slice_get t.sites i ≡ Some x → slice_get finished (callbacks + i) ≡ Some x

abbrev pub every : Names
every name = true

-- statements in a row of a body
pub record RowResolves (around : Around) (sites : List Site) (body : Body) (ts : List Tree) (s : State) (h : Here) : Type 0 where
  pub end : Here
  pub row : RowIs around sites h ts (row_read body (map part_of ts) s).part.part end
  pub matches : Matches every end (row_read body (map part_of ts) s).part.state

abbrev pub StatementsResolve : Type 0
StatementsResolve = (around : Around) (sites : List Site) (monitor callbacks : ℕ) (body : Body) → Fit around monitor callbacks body → (ts : List Tree) (s : State) (h : Here) → (row_read body (map part_of ts) s).faults ≡ []
    → Fits sites monitor callbacks s (row_read body (map part_of ts) s).part.state → Ready sites monitor s → Matches every h s → RowResolves around sites body ts s h
