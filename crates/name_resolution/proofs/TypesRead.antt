-- A written type in which no fault is found is its shape.
use Rattle.std.proofs.Common.{◌≡◌, ℕ, List, ◌++◌, min, Option, Some, None, refl, sym, subst}
use Rattle.span_text.specs.declared.spot.Spot.{Spot}
use Rattle.epl_values.specs.declared.shape.Shape.{Shape, Shape-F, out-Shape}
use Rattle.epl_values.specs.declared.shape.Shape.TheVariants as shape
use Rattle.epl_values.specs.declared.shape.Shape.TheOpen as layer
use Rattle.epl_tree.specs.declared.types.TypeExpr.{TypeExpr, TypeExpr-F, map-TypeExpr, roll-TypeExpr, out-roll-TypeExpr, fold-roll-TypeExpr, ind-TypeExpr}
use Rattle.epl_tree.specs.declared.types.TypeNode.{TypeNode, TypeNode-F, map-TypeNode, roll-TypeNode, out-TypeNode, out-roll-TypeNode, fold-TypeNode, fold-roll-TypeNode}
use Rattle.epl_tree.specs.declared.types.TypeNode.TheOpen as node
use Rattle.type_table.specs.declared.table.Table.{Table}
use Rattle.type_table.specs.Found.{Found, told}
use Rattle.type_table.specs.Table.{event_of}
use Rattle.type_table.specs.Types.{Written, event_shape, key_codes, sequence_of, dictionary_of, node_found, written_step, written_of, type_found}
use Rattle.name_resolution.specs.Types.{TypeIs, NodeIs}
use Rattle.name_resolution.specs.Types.{Written as Layer}
use Rattle.name_resolution.specs.Types as rule
use Rattle.name_resolution.proofs.Sure.{Sure, no_both}

module _ (table : Table) where
  -- the shape of a layer
  abbrev LayerIs : Layer → Shape → Type 0
  LayerIs l s = NodeIs table.types l (out-Shape s)

  node_at : TypeNode → Spot → Found Shape
  node_at = fold-TypeNode (Spot → Found Shape) Written (node_found (event_of table)) (written_step (event_of table))

  ForNode : TypeNode → Type 0
  ForNode n = (spot : Spot) → Sure (LayerIs (out-TypeNode n)) (node_at n spot)

  ForType : TypeExpr → Type 0
  ForType t = Sure (TypeIs table.types t) (written_of (event_of table) t).found

  abbrev Node : Type 0
  Node = (n : TypeNode) × ForNode n

  abbrev Stated : Type 0
  Stated = (t : TypeExpr) × ForType t

  made : (l : Layer) (s : Shape) (d : Shape-F Shape) → out-Shape s ≡ d → NodeIs table.types l d → LayerIs l s
  made l s d is h = subst (λ (e : Shape-F Shape). NodeIs table.types l e) (sym is) h

  named_is : (spot : Spot) (name : List ℕ) (o : Option ℕ) → event_of table name ≡ o → Sure (LayerIs (node.Named name)) (event_shape spot o)
  named_is spot name None is = record { where_clear = λ h. absurd (cc) }
  named_is spot name (Some n) is = record { where_clear = λ h. made (node.Named name) (shape.Event (min 65535 n)) (layer.Event (min 65535 n)) (shape.outs-Event (min 65535 n)) (rule.event is) }

  sequence_is : (t : TypeExpr) → ForType t → Sure (LayerIs (node.Sequence t)) (sequence_of (written_of (event_of table) t))
  unfolding ForType
  sequence_is t s = record { where_clear = λ h. made (node.Sequence t) (shape.Sequence _) (layer.Sequence _) (shape.outs-Sequence _) (rule.sequence (s.where_clear h)) }

  dictionary_is : (t u : TypeExpr) → ForType t → ForType u → Sure (LayerIs (node.Dictionary t u)) (dictionary_of (written_of (event_of table) t) (written_of (event_of table) u))
  unfolding ForType
  dictionary_is t u s v = record {
    where_clear = λ h.
        let key = written_of (event_of table) t in
        let value = written_of (event_of table) u in
        let front = no_both (key.found.faults ++ value.found.faults) (told key.spot (key_codes key.found.part)) h in
        let both = no_both key.found.faults value.found.faults front.0 in
        made (node.Dictionary t u) (shape.Dictionary key.found.part value.found.part) (layer.Dictionary key.found.part value.found.part) (shape.outs-Dictionary key.found.part value.found.part) (rule.dictionary (s.where_clear both.0) (v.where_clear both.1));
  }

  abbrev trees : TypeNode-F Node Stated → TypeNode-F TypeNode TypeExpr
  trees y = map-TypeNode Node Stated TypeNode TypeExpr (λ e. e.0) (λ e. e.0) y

  abbrev by_parts : TypeNode-F TypeNode TypeExpr → TypeNode-F (Spot → Found Shape) Written
  by_parts x = map-TypeNode TypeNode TypeExpr (Spot → Found Shape) Written node_at (written_of (event_of table)) x

  layer_is : (y : TypeNode-F Node Stated) (spot : Spot) → Sure (LayerIs (trees y)) (node_found (event_of table) (by_parts (trees y)) spot)
  unfolding ForType
  layer_is node.Integer spot = record { where_clear = λ h. made node.Integer shape.Integer layer.Integer shape.outs-Integer rule.integer }
  layer_is node.Boolean spot = record { where_clear = λ h. made node.Boolean shape.Boolean layer.Boolean shape.outs-Boolean rule.boolean }
  layer_is node.Text spot = record { where_clear = λ h. made node.Text shape.Text layer.Text shape.outs-Text rule.text }
  layer_is node.Context spot = record { where_clear = λ h. made node.Context shape.Context layer.Context shape.outs-Context rule.context }
  layer_is node.Listener spot = record { where_clear = λ h. made node.Listener shape.Listener layer.Listener shape.outs-Listener rule.listener }
  layer_is (node.Named name) spot = named_is spot name (event_of table name) refl
  layer_is (node.Sequence item) spot = sequence_is item.0 item.1
  layer_is (node.Dictionary key value) spot = dictionary_is key.0 value.0 key.1 value.1

  node_case : (x : TypeNode-F TypeNode TypeExpr) (y : TypeNode-F Node Stated) → trees y ≡ x → ForNode (roll-TypeNode x)
  unfolding ForNode node_at
  node_case x y is = subst (λ (z : TypeNode-F TypeNode TypeExpr). ForNode (roll-TypeNode z)) is
      (λ spot. subst (λ (l : Layer). Sure (LayerIs l) (node_at (roll-TypeNode (trees y)) spot)) (sym (out-roll-TypeNode (trees y)))
      (subst (λ (f : Spot → Found Shape). Sure (LayerIs (trees y)) (f spot)) (sym (fold-roll-TypeNode (Spot → Found Shape) Written (node_found (event_of table)) (written_step (event_of table)) (trees y))) (layer_is y spot)))

  abbrev type_trees : TypeExpr-F Node Stated → TypeExpr-F TypeNode TypeExpr
  type_trees y = map-TypeExpr Node Stated TypeNode TypeExpr (λ e. e.0) (λ e. e.0) y

  rolled : (d : TypeExpr-F TypeNode TypeExpr) (s : Shape) → LayerIs (out-TypeNode d.node) s → TypeIs table.types (roll-TypeExpr d) s
  rolled d s h = rule.is (subst (λ (t : TypeExpr-F TypeNode TypeExpr). LayerIs (out-TypeNode t.node) s) (sym (out-roll-TypeExpr d)) h)

  type_case : (x : TypeExpr-F TypeNode TypeExpr) (y : TypeExpr-F Node Stated) → type_trees y ≡ x → ForType (roll-TypeExpr x)
  unfolding ForNode ForType node_at
  type_case x y is = subst (λ (z : TypeExpr-F TypeNode TypeExpr). ForType (roll-TypeExpr z)) is
      (subst (λ (w : Written). Sure (TypeIs table.types (roll-TypeExpr (type_trees y))) w.found) (sym (fold-roll-TypeExpr (Spot → Found Shape) Written (node_found (event_of table)) (written_step (event_of table)) (type_trees y)))
      (record { where_clear = λ h. rolled (type_trees y) _ ((y.node.1 y.spot).where_clear h) }))

  type_of : (t : TypeExpr) → ForType t
  type_of = ind-TypeExpr ForNode ForType node_case type_case

  pub type_sure : (t : TypeExpr) → Sure (TypeIs table.types t) (type_found table t)
  unfolding ForType
  type_sure t = type_of t
