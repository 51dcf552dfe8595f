-- Names that an event expression binds stand behind those around it, and differ from them and from one another.
use Rattle.std.proofs.Common.{◌≡◌, if◌then◌else◌, ◌∷◌, ◌++◌}
use Rattle.program_laws.proofs.Common.{ℕ, Bool, true, false, List, [], map, drop, length, is_some, refl, sym, ap, subst, ◌∙◌, append_assoc, TemplateClause, EventExpr, roll-EventExpr, fold-roll-EventExpr, EventNode, EventNode-F, map-EventNode, roll-EventNode, fold-EventNode, fold-roll-EventNode, ind-EventExpr, Scope, Seen, Table, seen_of, seen_bound, clause_binds, clauses_bind, binds, bound_in}
use Rattle.epl_tree.specs.declared.event.TemplateClause.TheVariants as clause
use Rattle.epl_tree.specs.declared.event.EventNode.TheOpen as node
use Rattle.listener_check.specs.Bound.{each, node_step, expr_step}
use Rattle.program_laws.proofs.Rules.Lookups.{Differ, names_of, names_append, differ_more, not_seen, not_there}

-- a scope with more names, which differ where those before do
pub record Grown (a b : Scope) : Type 0 where
  pub more : List Seen
  pub names : b.names ≡ a.names ++ more
  pub differ : Differ (names_of a.names) → Differ (names_of b.names)

append_none : (xs : List Seen) → xs ≡ xs ++ []
append_none [] = refl
append_none (x ∷ xs) = ap (λ (l : List Seen). x ∷ l) (append_none xs)

grown_self : (a : Scope) → Grown a a
grown_self a = record { more = []; names = append_none a.names; differ = λ h. h }

grown_on : (a b c : Scope) → Grown a b → Grown b c → Grown a c
grown_on a b c g h = record { more = g.more ++ h.more; names = h.names ∙ ap (λ (l : List Seen). l ++ h.more) g.names ∙ append_assoc a.names g.more h.more; differ = λ d. h.differ (g.differ d) }

module _ (table : Table) (outer : ℕ) where
  with_grown : (event name : List ℕ) (b : Scope) (t : Bool) → is_some (seen_of b name) ≡ t → Grown b (if t then b else record b { names = b.names ++ seen_bound table outer b event name ∷ [] })
  with_grown event name b true is = grown_self b
  with_grown event name b false is = record {
    more = seen_bound table outer b event name ∷ [];
    names = refl;
    differ = λ d. subst Differ (sym (names_append b.names (seen_bound table outer b event name ∷ []))) (differ_more (names_of b.names) name d (not_there b.names name (not_seen b name is)));
  }

  clause_grown : (event : List ℕ) (c : TemplateClause) (b : Scope) → Grown b (clause_binds table outer event c b)
  clause_grown event (clause.As name) b = with_grown event name.text b (is_some (seen_of b name.text)) refl
  clause_grown event (clause.Within duration) b = grown_self b

  clauses_grown : (event : List ℕ) (cs : List TemplateClause) (b : Scope) → Grown b (clauses_bind table outer event cs b)
  clauses_grown event [] b = grown_self b
  clauses_grown event (c ∷ cs) b = grown_on b (clause_binds table outer event c b) (clauses_bind table outer event cs (clause_binds table outer event c b)) (clause_grown event c b) (clauses_grown event cs (clause_binds table outer event c b))

  abbrev Binding : Type 0
  Binding = Scope → Scope

  abbrev node_of : EventNode → Binding
  node_of = fold-EventNode Binding Binding (node_step table outer) (expr_step table outer)

  abbrev Fine : Binding → Type 0
  Fine f = (b : Scope) → Grown b (f b)

  abbrev NodeFine : EventNode → Type 0
  NodeFine n = Fine (node_of n)

  abbrev ExprFine : EventExpr → Type 0
  ExprFine e = Fine (binds table outer e)

  abbrev Nodes : Type 0
  Nodes = (n : EventNode) × NodeFine n

  abbrev Exprs : Type 0
  Exprs = (e : EventExpr) × ExprFine e

  each_fine : (es : List Exprs) → Fine (each table outer (map (binds table outer) (map (λ e. e.0) es)))
  each_fine [] b = grown_self b
  each_fine (e ∷ es) b = grown_on b (binds table outer e.0 b) (each table outer (map (binds table outer) (map (λ e. e.0) es)) (binds table outer e.0 b)) (e.1 b) (each_fine es (binds table outer e.0 b))

  both_fine : (first : Exprs) (rest : List Exprs) → Fine (λ b. each table outer (map (binds table outer) (map (λ e. e.0) rest)) (binds table outer first.0 b))
  both_fine first rest b = grown_on b (binds table outer first.0 b) _ (first.1 b) (each_fine rest (binds table outer first.0 b))

  node_layer : (y : EventNode-F Nodes Exprs) → Fine (node_step table outer (map-EventNode EventNode EventExpr Binding Binding node_of (binds table outer) (map-EventNode Nodes Exprs EventNode EventExpr (λ e. e.0) (λ e. e.0) y)))
  node_layer (node.Followed first rest) = both_fine first rest
  node_layer (node.Or first rest) = both_fine first rest
  node_layer (node.Xor first rest) = both_fine first rest
  node_layer (node.And first rest) = both_fine first rest
  node_layer (node.All x) = x.1
  node_layer (node.Not x) = x.1
  node_layer (node.Group x within) = x.1
  node_layer (node.Wait d) = grown_self
  node_layer (node.Template t) = clauses_grown t.event t.clauses

  every_fine : (e : EventExpr) → ExprFine e
  every_fine = ind-EventExpr NodeFine ExprFine
      (λ x y is. subst (λ d. NodeFine (roll-EventNode d)) is (subst Fine (sym (fold-roll-EventNode Binding Binding (node_step table outer) (expr_step table outer) _)) (node_layer y)))
      (λ x y is. subst (λ d. ExprFine (roll-EventExpr d)) is (subst Fine (sym (fold-roll-EventExpr Binding Binding (node_step table outer) (expr_step table outer) _)) y.node.1))

drop_front : (xs ys : List Seen) → drop (length xs) (xs ++ ys) ≡ ys
drop_front [] [] = refl
drop_front [] (y ∷ ys) = refl
drop_front (x ∷ xs) ys = drop_front xs ys

-- the names around an event expression and those that it binds all differ
pub bound_differ : (table : Table) (scope : Scope) (event : EventExpr) → Differ (names_of scope.names) → Differ (names_of (scope.names ++ bound_in table scope event))
bound_differ table scope event h =
    let g = every_fine table (length scope.names) event scope in
    let behind : bound_in table scope event ≡ g.more = ap (drop (length scope.names)) g.names ∙ drop_front scope.names g.more in
    subst (λ (xs : List Seen). Differ (names_of (scope.names ++ xs))) (sym behind) (subst (λ (xs : List Seen). Differ (names_of xs)) g.names (g.differ h))
