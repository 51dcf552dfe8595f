-- A type in which no fault is found stands.
use Rattle.std.proofs.Common.{◌≡◌, ◌<◌, ◌++◌}
use Rattle.program_laws.proofs.Common.{ℕ, true, List, length, min, Option, Some, None, refl, sym, subst, arith, lt-ltb, Spot, Shape, TypeExpr, TypeNode, stands, Names, Scope, Table, Found, told, event_of, Written, node_found, written_step, written_of, type_found, KnowsTable}
use Rattle.epl_tree.specs.declared.types.TypeExpr.{TypeExpr-F, map-TypeExpr, roll-TypeExpr, fold-roll-TypeExpr, ind-TypeExpr}
use Rattle.epl_tree.specs.declared.types.TypeNode.{TypeNode-F, map-TypeNode, roll-TypeNode, fold-TypeNode, fold-roll-TypeNode}
use Rattle.epl_tree.specs.declared.types.TypeNode.TheOpen as node
use Rattle.typed_program.specs.Shapes.{is_scalar}
use Rattle.type_table.specs.Types.{event_shape, key_codes, sequence_of, dictionary_of}
use Rattle.expr_rules.specs.Literals.{new_stands}
use Rattle.expr_rules.specs.Then.{and_then}
use Rattle.program_laws.proofs.Exprs.Sure.{Sure, sure_then}
use Rattle.program_laws.proofs.Exprs.Standing.{integer_stands, boolean_stands, text_stands, context_stands, listener_stands, event_stands, sequence_stands, dictionary_stands}
use Rattle.program_laws.proofs.Exprs.Answering.{Answering, Answers}
use Rattle.program_laws.proofs.Exprs.Literals.{new_sure}
use Rattle.program_laws.proofs.Exprs.Calls.{event_numbered}
use Rattle.program_laws.proofs.Shapes.Lists.{no_both, no_told, no_unless}

module _ (table : Table) (names : Names) (scope : Scope) (k : KnowsTable table names scope) where
  abbrev Stood : Shape → Type 0
  Stood s = stands names.types s ≡ true

  node_at : TypeNode → Spot → Found Shape
  node_at = fold-TypeNode (Spot → Found Shape) Written (node_found (event_of table)) (written_step (event_of table))

  NodeStands : TypeNode → Type 0
  NodeStands n = (spot : Spot) → Sure Stood (node_at n spot)

  TypeStands : TypeExpr → Type 0
  TypeStands t = Sure Stood (written_of (event_of table) t).found

  abbrev Node : Type 0
  Node = (n : TypeNode) × NodeStands n

  abbrev Stated : Type 0
  Stated = (t : TypeExpr) × TypeStands t

  named_stands : (spot : Spot) (name : List ℕ) (o : Option ℕ) → event_of table name ≡ o → Sure Stood (event_shape spot o)
  named_stands spot name None is = record { where_clear = λ h. absurd (cc) }
  named_stands spot name (Some n) is = record {
    where_clear = λ h.
        let below = event_numbered table names scope k n name is in
        let small : min 65535 n ≡ n = (let few = k.few in omega arith) in
        event_stands names.types (min 65535 n) (lt-ltb (min 65535 n) (length names.types) (subst (λ (m : ℕ). m < length names.types) (sym small) below));
  }

  sequence_sure : (item : Written) → Sure Stood item.found → Sure Stood (sequence_of item)
  sequence_sure item s = record { where_clear = λ h. sequence_stands names.types item.found.part (s.where_clear h) }

  dictionary_sure : (key value : Written) → Sure Stood key.found → Sure Stood value.found → Sure Stood (dictionary_of key value)
  dictionary_sure key value s t = record {
    where_clear = λ h.
        let front = no_both (key.found.faults ++ value.found.faults) (told key.spot (key_codes key.found.part)) h in
        let both = no_both key.found.faults value.found.faults front.0 in
        dictionary_stands names.types key.found.part value.found.part (no_unless (is_scalar key.found.part) 3 (no_told key.spot (key_codes key.found.part) front.1)) (s.where_clear both.0) (t.where_clear both.1);
  }

  abbrev trees : TypeNode-F Node Stated → TypeNode-F TypeNode TypeExpr
  trees y = map-TypeNode Node Stated TypeNode TypeExpr (λ e. e.0) (λ e. e.0) y

  abbrev by_parts : TypeNode-F TypeNode TypeExpr → TypeNode-F (Spot → Found Shape) Written
  by_parts x = map-TypeNode TypeNode TypeExpr (Spot → Found Shape) Written node_at (written_of (event_of table)) x

  layer_stands : (y : TypeNode-F Node Stated) (spot : Spot) → Sure Stood (node_found (event_of table) (by_parts (trees y)) spot)
  unfolding TypeStands
  layer_stands node.Integer spot = record { where_clear = λ h. integer_stands names.types }
  layer_stands node.Boolean spot = record { where_clear = λ h. boolean_stands names.types }
  layer_stands node.Text spot = record { where_clear = λ h. text_stands names.types }
  layer_stands node.Context spot = record { where_clear = λ h. context_stands names.types }
  layer_stands node.Listener spot = record { where_clear = λ h. listener_stands names.types }
  layer_stands (node.Named name) spot = named_stands spot name (event_of table name) refl
  layer_stands (node.Sequence item) spot = sequence_sure (written_of (event_of table) item.0) item.1
  layer_stands (node.Dictionary key value) spot = dictionary_sure (written_of (event_of table) key.0) (written_of (event_of table) value.0) key.1 value.1

  node_case : (x : TypeNode-F TypeNode TypeExpr) (y : TypeNode-F Node Stated) → trees y ≡ x → NodeStands (roll-TypeNode x)
  unfolding NodeStands node_at
  node_case x y is = subst (λ (z : TypeNode-F TypeNode TypeExpr). NodeStands (roll-TypeNode z)) is
      (λ spot. subst (λ (f : Spot → Found Shape). Sure Stood (f spot)) (sym (fold-roll-TypeNode (Spot → Found Shape) Written (node_found (event_of table)) (written_step (event_of table)) (trees y))) (layer_stands y spot))

  type_case : (x : TypeExpr-F TypeNode TypeExpr) (y : TypeExpr-F Node Stated) → map-TypeExpr Node Stated TypeNode TypeExpr (λ e. e.0) (λ e. e.0) y ≡ x → TypeStands (roll-TypeExpr x)
  unfolding NodeStands TypeStands node_at
  type_case x y is = subst (λ (z : TypeExpr-F TypeNode TypeExpr). TypeStands (roll-TypeExpr z)) is
      (subst (λ (w : Written). Sure Stood w.found) (sym (fold-roll-TypeExpr (Spot → Found Shape) Written (node_found (event_of table)) (written_step (event_of table)) (map-TypeExpr Node Stated TypeNode TypeExpr (λ e. e.0) (λ e. e.0) y))) (y.node.1 y.spot))

  type_stands : (t : TypeExpr) → TypeStands t
  type_stands = ind-TypeExpr NodeStands TypeStands node_case type_case

  pub type_sure : (t : TypeExpr) → Sure Stood (type_found table t)
  unfolding TypeStands
  type_sure t = type_stands t

  pub new_answers : (t : TypeExpr) (spot : Spot) → Answers names (λ demand. and_then (type_found table t) (new_stands spot demand))
  new_answers t spot = record { at_demand = λ demand wish. sure_then Stood (Answering names demand.wish) (type_found table t) (new_stands spot demand) (type_sure t) (new_sure names spot demand) }
