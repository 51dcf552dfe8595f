-- The operands of an event expression are read in the scope around it, behind whose names stand those that it binds.
use Rattle.std.proofs.Common.{◌≡◌, ◌∷◌, ◌++◌, if◌then◌else◌}
use Rattle.program_laws.proofs.Common.{ℕ, Bool, true, false, not, List, [], map, length, Option, Some, is_some, refl, sym, ap, subst, ◌∙◌, true≢false, append_assoc, AllByRecursion, and_parts, not-true, append-nil, Expr, EventExpr, EventExpr-F, map-EventExpr, roll-EventExpr, fold-roll-EventExpr, EventNode, EventNode-F, map-EventNode, roll-EventNode, fold-EventNode, fold-roll-EventNode, ind-EventExpr, TemplateClause, Scope, Seen, Table, seen_of, Demand, seen, Part, typed_of, expr_found, seen_bound, clause_binds, clauses_bind, binds, inner_of, is_own}
use Rattle.epl_tree.specs.declared.event.EventNode.TheOpen as node
use Rattle.epl_tree.specs.declared.event.TemplateClause.TheVariants as clause
use Rattle.type_table.specs.declared.scope.SeenKind.TheVariants as kind
use Rattle.expr_rules.specs.Then.{and_then}
use Rattle.expr_check.specs.Expressions.{part_of}
use Rattle.listener_check.specs.Bound.{each, node_step, expr_step}
use Rattle.listener_check.specs.Names.{mentions}
use Rattle.program_laws.proofs.Shapes.Lists.{all_at}
use Rattle.program_laws.proofs.Terms.Apart.{Alike, apart}
use Rattle.program_laws.proofs.Terms.Bounds.{widened, seen_apart, seen_there, own_found}

abbrev IsBound : Seen → Type 0
IsBound x = x.kind ≡ kind.Bound

-- a scope with further names behind those of another, each of them bound by an event expression
pub record Widened (a b : Scope) : Type 0 where
  pub more : List Seen
  pub is : b ≡ widened a more
  pub bound : AllByRecursion IsBound more

all_bound : (xs ys : List Seen) → AllByRecursion IsBound xs → AllByRecursion IsBound ys → AllByRecursion IsBound (xs ++ ys)
all_bound [] ys h k = k
all_bound (x ∷ xs) ys h k = (h.0, all_bound xs ys h.1 k)

widened_self : (a : Scope) → Widened a a
widened_self a = record { more = []; is = ap (λ (l : List Seen). record a { names = l }) (sym (append-nil a.names)); bound = tt }

widened_on : (a b c : Scope) → Widened a b → Widened b c → Widened a c
widened_on a b c f g = record {
  more = f.more ++ g.more;
  is = g.is ∙ ap (λ (s : Scope). widened s g.more) f.is ∙ ap (λ (l : List Seen). record a { names = l }) (append_assoc a.names f.more g.more);
  bound = all_bound f.more g.more f.bound g.bound;
}

-- ---- what an event expression binds

module _ (table : Table) (outer : ℕ) where
  abbrev Widens : (Scope → Scope) → Type 0
  Widens f = (a : Scope) → Widened a (f a)

  name_widens : (event name : List ℕ) (a : Scope) (t : Bool) → Widened a (if t then a else record a { names = a.names ++ seen_bound table outer a event name ∷ [] })
  name_widens event name a true = widened_self a
  name_widens event name a false = record { more = seen_bound table outer a event name ∷ []; is = refl; bound = (refl, tt) }

  clause_widens : (event : List ℕ) (c : TemplateClause) (a : Scope) → Widened a (clause_binds table outer event c a)
  clause_widens event (clause.As name) a = name_widens event name.text a (is_some (seen_of a name.text))
  clause_widens event (clause.Within duration) a = widened_self a

  clauses_widen : (event : List ℕ) (cs : List TemplateClause) (a : Scope) → Widened a (clauses_bind table outer event cs a)
  clauses_widen event [] a = widened_self a
  clauses_widen event (c ∷ cs) a = widened_on a (clause_binds table outer event c a) (clauses_bind table outer event cs (clause_binds table outer event c a)) (clause_widens event c a) (clauses_widen event cs (clause_binds table outer event c a))

  record ForExpr (e : EventExpr) : Type 0 where
    widens : Widens (binds table outer e)

  abbrev node_binds : EventNode → Scope → Scope
  node_binds = fold-EventNode (Scope → Scope) (Scope → Scope) (node_step table outer) (expr_step table outer)

  record ForNode (n : EventNode) : Type 0 where
    node_widens : Widens (node_binds n)

  abbrev N : Type 0
  N = (n : EventNode) × ForNode n

  abbrev X : Type 0
  X = (e : EventExpr) × ForExpr e

  abbrev binders : List X → List (Scope → Scope)
  binders ys = map (binds table outer) (map (λ e. e.0) ys)

  each_widens : (ys : List X) → Widens (each table outer (binders ys))
  each_widens [] a = widened_self a
  each_widens (y ∷ ys) a = widened_on a (binds table outer y.0 a) (each table outer (binders ys) (binds table outer y.0 a)) (let f = y.1 in f.widens a) (each_widens ys (binds table outer y.0 a))

  first_widens : (first : X) (ys : List X) (a : Scope) → Widened a (each table outer (binders ys) (binds table outer first.0 a))
  first_widens first ys a = each_widens (first ∷ ys) a

  abbrev node_trees : EventNode-F N X → EventNode-F EventNode EventExpr
  node_trees y = map-EventNode N X EventNode EventExpr (λ e. e.0) (λ e. e.0) y

  abbrev node_binders : EventNode-F EventNode EventExpr → EventNode-F (Scope → Scope) (Scope → Scope)
  node_binders x = map-EventNode EventNode EventExpr (Scope → Scope) (Scope → Scope) node_binds (binds table outer) x

  node_at : (y : EventNode-F N X) → Widens (node_step table outer (node_binders (node_trees y)))
  node_at (node.Followed first rest) a = first_widens first rest a
  node_at (node.Or first rest) a = first_widens first rest a
  node_at (node.Xor first rest) a = first_widens first rest a
  node_at (node.And first rest) a = first_widens first rest a
  node_at (node.All x) a = let f = x.1 in f.widens a
  node_at (node.Not x) a = let f = x.1 in f.widens a
  node_at (node.Group x within) a = let f = x.1 in f.widens a
  node_at (node.Wait d) a = widened_self a
  node_at (node.Template t) a = clauses_widen t.event t.clauses a

  node_case : (x : EventNode-F EventNode EventExpr) (y : EventNode-F N X) → node_trees y ≡ x → ForNode (roll-EventNode x)
  node_case x y is = subst (λ (z : EventNode-F EventNode EventExpr). ForNode (roll-EventNode z)) is
      (record { node_widens = subst Widens (sym (fold-roll-EventNode (Scope → Scope) (Scope → Scope) (node_step table outer) (expr_step table outer) (node_trees y))) (node_at y) })

  abbrev expr_trees : EventExpr-F N X → EventExpr-F EventNode EventExpr
  expr_trees y = map-EventExpr N X EventNode EventExpr (λ e. e.0) (λ e. e.0) y

  expr_case : (x : EventExpr-F EventNode EventExpr) (y : EventExpr-F N X) → expr_trees y ≡ x → ForExpr (roll-EventExpr x)
  expr_case x y is = subst (λ (z : EventExpr-F EventNode EventExpr). ForExpr (roll-EventExpr z)) is
      (record { widens = subst Widens (sym (fold-roll-EventExpr (Scope → Scope) (Scope → Scope) (node_step table outer) (expr_step table outer) (expr_trees y))) (let n = y.node.1 in n.node_widens) })

  expr_widens : (e : EventExpr) → ForExpr e
  expr_widens = ind-EventExpr ForNode ForExpr node_case expr_case

-- for every event expression
pub inner_widened : (table : Table) (scope : Scope) (tree : EventExpr) → Widened scope (inner_of table scope tree)
inner_widened table scope tree = let f = expr_widens table (length scope.names) tree in f.widens scope

-- ---- names in the scope of the operands

none_seen : (o : Option Seen) (s : Seen) → is_some o ≡ false → o ≡ Some s → ⊥
none_seen o s h is = true≢false (sym (ap is_some is) ∙ h)

module _ (table : Table) (scope inner : Scope) (w : Widened scope inner) where
  alike : (bound : List Seen) → Alike (is_own scope (widened scope bound)) table (widened scope bound) scope
  alike bound = record { same_names = λ name h. seen_apart scope bound name h; same_actions = λ name. refl }

  parts_same : (e : Expr) → mentions (is_own scope inner) e ≡ false → part_of table inner e ≡ part_of table scope e
  parts_same e h = apart (is_own scope inner) table inner scope (subst (λ (i : Scope). Alike (is_own scope i) table i scope) (sym w.is) (alike w.more)) e h

  -- an expression that names no bound name is the same in the scope around
  pub free_part : (e : Expr) (demand : Demand) → mentions (is_own scope inner) e ≡ false → part_of table inner e demand ≡ part_of table scope e demand
  free_part e demand h = ap (λ (p : Part). p demand) (parts_same e h)

  -- the same of what is found of it
  pub free_found : (e : Expr) (demand : Demand) → mentions (is_own scope inner) e ≡ false → expr_found table inner e demand ≡ expr_found table scope e demand
  free_found e demand h = ap (λ (p : Part). and_then (p demand) typed_of) (parts_same e h)

  -- a bound name is none of those around
  pub own_unseen : (name : List ℕ) (s : Seen) → is_own scope inner name ≡ true → seen scope name ≡ Some s → ⊥
  own_unseen name s own at =
      let unseen = not-true (is_some (seen_of scope name)) (and_parts (not (is_some (seen_of scope name))) (is_some (seen_of inner name)) own).0 in
      none_seen (seen scope name) s (sym (seen_there scope name) ∙ unseen) at

  -- a bound name stands for what its event expression binds
  pub record IsOwn (name : List ℕ) : Type 0 where
    pub item : Seen
    pub seen_so : seen inner name ≡ Some item
    pub is_bound : item.kind ≡ kind.Bound

  -- for every bound name
  pub own_is : (name : List ℕ) → is_own scope inner name ≡ true → IsOwn name
  own_is name own =
      let o = own_found scope w.more name (ap (λ (i : Scope). is_own scope i name) (sym w.is) ∙ own) in
      record { item = o.item; seen_so = ap (λ (i : Scope). seen i name) w.is ∙ o.seen_so; is_bound = all_at IsBound w.more o.place o.item w.bound o.at }
