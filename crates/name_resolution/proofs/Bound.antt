-- The names that an event expression binds stand behind those around it.
use Rattle.std.proofs.Common.{◌≡◌, ℕ, Bool, true, false, if◌then◌else◌, List, [], ◌∷◌, ◌++◌, map, length, drop, is_some, refl, sym, ap, subst, ◌∙◌, append_assoc}
use Rattle.std.specs.List.{AllByRecursion}
use Rattle.std.proofs.Math.Seq.{drop-append_seam}
use Rattle.epl_tree.specs.declared.event.EventExpr.{EventExpr, EventExpr-F, map-EventExpr, roll-EventExpr, fold-roll-EventExpr}
use Rattle.epl_tree.specs.declared.event.EventNode.{EventNode, EventNode-F, map-EventNode, roll-EventNode, fold-EventNode, fold-roll-EventNode}
use Rattle.epl_tree.specs.declared.event.EventNode.TheOpen as event
use Rattle.epl_tree.specs.declared.event.EventNode.TheFolds.{ind-EventExpr}
use Rattle.epl_tree.specs.declared.event.TemplateClause.{TemplateClause}
use Rattle.epl_tree.specs.declared.event.TemplateClause.TheVariants as clause
use Rattle.type_table.specs.declared.scope.Scope.{Scope}
use Rattle.type_table.specs.declared.scope.Seen.{Seen}
use Rattle.type_table.specs.declared.scope.SeenKind.TheVariants as kind
use Rattle.type_table.specs.declared.table.Table.{Table}
use Rattle.type_table.specs.Table.{seen_of}
use Rattle.listener_check.specs.Bound.{seen_bound, clause_binds, clauses_bind, each, node_step, expr_step, binds, inner_of}
use Rattle.name_resolution.proofs.Through.{append_none}

-- a bound name
abbrev pub IsBound : Seen → Type 0
IsBound s = s.kind ≡ kind.Bound

-- a scope with names more, all of them bound
pub record Wider (a b : Scope) : Type 0 where
  pub more : List Seen
  pub are : b.names ≡ a.names ++ more
  pub bound : AllByRecursion IsBound more
  pub own : b.monitor ≡ a.monitor
  pub actions : b.actions ≡ a.actions

all_behind : (xs ys : List Seen) → AllByRecursion IsBound xs → AllByRecursion IsBound ys → AllByRecursion IsBound (xs ++ ys)
all_behind [] ys h k = k
all_behind (x ∷ xs) ys h k = (h.0, all_behind xs ys h.1 k)

wider_same : (a : Scope) → Wider a a
wider_same a = record { more = []; are = sym (append_none a.names); bound = tt; own = refl; actions = refl }

wider_on : (a b c : Scope) → Wider a b → Wider b c → Wider a c
wider_on a b c g h = record { more = g.more ++ h.more; are = h.are ∙ ap (λ (l : List Seen). l ++ h.more) g.are ∙ append_assoc a.names g.more h.more; bound = all_behind g.more h.more g.bound h.bound; own = h.own ∙ g.own; actions = h.actions ∙ g.actions }

module _ (table : Table) (outer : ℕ) where
  with_wider : (event name : List ℕ) (b : Scope) (t : Bool) → Wider b (if t then b else record b { names = b.names ++ seen_bound table outer b event name ∷ [] })
  with_wider event name b true = wider_same b
  with_wider event name b false = record { more = seen_bound table outer b event name ∷ []; are = refl; bound = (refl, tt); own = refl; actions = refl }

  clause_wider : (event : List ℕ) (c : TemplateClause) (b : Scope) → Wider b (clause_binds table outer event c b)
  clause_wider event (clause.As name) b = with_wider event name.text b (is_some (seen_of b name.text))
  clause_wider event (clause.Within duration) b = wider_same b

  clauses_wider : (event : List ℕ) (cs : List TemplateClause) (b : Scope) → Wider b (clauses_bind table outer event cs b)
  clauses_wider event [] b = wider_same b
  clauses_wider event (c ∷ cs) b = wider_on b (clause_binds table outer event c b) (clauses_bind table outer event cs (clause_binds table outer event c b)) (clause_wider event c b) (clauses_wider event cs (clause_binds table outer event c b))

  abbrev Widens : (Scope → Scope) → Type 0
  Widens f = (a : Scope) → Wider a (f a)

  abbrev node_binds : EventNode → Scope → Scope
  node_binds = fold-EventNode (Scope → Scope) (Scope → Scope) (node_step table outer) (expr_step table outer)

  abbrev N : Type 0
  N = (n : EventNode) × Widens (node_binds n)

  abbrev X : Type 0
  X = (e : EventExpr) × Widens (binds table outer e)

  each_wider : (ys : List X) (a : Scope) → Wider a (each table outer (map (binds table outer) (map (λ y. y.0) ys)) a)
  each_wider [] a = wider_same a
  each_wider (y ∷ ys) a = let f = y.1 in wider_on a (binds table outer y.0 a) (each table outer (map (binds table outer) (map (λ y. y.0) ys)) (binds table outer y.0 a)) (f a) (each_wider ys (binds table outer y.0 a))

  chain_wider : (first : X) (ys : List X) (a : Scope) → Wider a (each table outer (map (binds table outer) (map (λ y. y.0) ys)) (binds table outer first.0 a))
  chain_wider first ys a = let f = first.1 in wider_on a (binds table outer first.0 a) (each table outer (map (binds table outer) (map (λ y. y.0) ys)) (binds table outer first.0 a)) (f a) (each_wider ys (binds table outer first.0 a))

  abbrev trees : EventNode-F N X → EventNode-F EventNode EventExpr
  trees y = map-EventNode N X EventNode EventExpr (λ e. e.0) (λ e. e.0) y

  abbrev binders : EventNode-F EventNode EventExpr → EventNode-F (Scope → Scope) (Scope → Scope)
  binders x = map-EventNode EventNode EventExpr (Scope → Scope) (Scope → Scope) node_binds (binds table outer) x

  node_wider : (y : EventNode-F N X) → Widens (node_step table outer (binders (trees y)))
  node_wider (event.Followed first rest) a = chain_wider first rest a
  node_wider (event.Or first rest) a = chain_wider first rest a
  node_wider (event.Xor first rest) a = chain_wider first rest a
  node_wider (event.And first rest) a = chain_wider first rest a
  node_wider (event.All x) a = x.1 a
  node_wider (event.Not x) a = x.1 a
  node_wider (event.Group x within) a = x.1 a
  node_wider (event.Wait d) a = wider_same a
  node_wider (event.Template t) a = clauses_wider t.event t.clauses a

  node_case : (x : EventNode-F EventNode EventExpr) (y : EventNode-F N X) → trees y ≡ x → Widens (node_binds (roll-EventNode x))
  node_case x y is = subst (λ (z : EventNode-F EventNode EventExpr). Widens (node_binds (roll-EventNode z))) is
      (subst Widens (sym (fold-roll-EventNode (Scope → Scope) (Scope → Scope) (node_step table outer) (expr_step table outer) (trees y))) (node_wider y))

  abbrev expr_trees : EventExpr-F N X → EventExpr-F EventNode EventExpr
  expr_trees y = map-EventExpr N X EventNode EventExpr (λ e. e.0) (λ e. e.0) y

  expr_case : (x : EventExpr-F EventNode EventExpr) (y : EventExpr-F N X) → expr_trees y ≡ x → Widens (binds table outer (roll-EventExpr x))
  expr_case x y is = subst (λ (z : EventExpr-F EventNode EventExpr). Widens (binds table outer (roll-EventExpr z))) is
      (subst Widens (sym (fold-roll-EventExpr (Scope → Scope) (Scope → Scope) (node_step table outer) (expr_step table outer) (expr_trees y))) (y.node.1))

  pub widens : (e : EventExpr) → Widens (binds table outer e)
  widens = ind-EventExpr (λ n. Widens (node_binds n)) (λ e. Widens (binds table outer e)) node_case expr_case

-- the scope of the operands
pub inner_wider : (table : Table) (scope : Scope) (e : EventExpr) → Wider scope (inner_of table scope e)
inner_wider table scope e = widens table (length scope.names) e scope

-- what stands behind the names around it
pub behind_is : (scope inner : Scope) (w : Wider scope inner) → drop (length scope.names) inner.names ≡ w.more
behind_is scope inner w = ap (λ (l : List Seen). drop (length scope.names) l) w.are ∙ drop-append_seam scope.names w.more
