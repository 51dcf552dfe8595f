-- What is found of a type that is taken apart.
use Rattle.std.proofs.Common.{◌≡◌, ℕ, List, [], Err, Option, refl, ap, sym, ◌∙◌}
use Rattle.span_text.specs.declared.spot.Spot.{Spot}
use Rattle.epl_values.specs.declared.shape.Shape.{Shape}
use Rattle.epl_tree.specs.declared.types.TypeExpr.{TypeExpr}
use Rattle.epl_tree.specs.declared.types.TypeNode.{TypeNode}
use Rattle.epl_tree.specs.declared.types.TypeNode.TheVariants as node
use Rattle.epl_tree.specs.declared.types.TypeNode.TheOpen as layer
use Rattle.epl_tree.specs.declared.types.TypeNode.TheFolds.{fold-TypeNode, fold-roll-TypeNode, fold-roll-TypeExpr}
use Rattle.type_table.specs.declared.fault.Refusal.{Refusal}
use Rattle.type_table.specs.Found.{Found, Finds}
use Rattle.type_table.proofs.Order.{refuses_before, refuses_behind}
use Rattle.type_table.specs.Types.{Written, node_found, written_step, written_of, type_by, dictionary_of}

module _ (number_of : List ℕ → Option ℕ) where
  node_at : TypeNode → Spot → Found Shape
  node_at = fold-TypeNode (Spot → Found Shape) Written (node_found number_of) (written_step number_of)

  type-node : (spot : Spot) (n : TypeNode) → type_by number_of (record { spot = spot; node = n }) ≡ node_at n spot
  unfolding node_at
  type-node spot n = ap (λ (w : Written). w.found) (fold-roll-TypeExpr (Spot → Found Shape) Written (node_found number_of) (written_step number_of) (record { spot = spot; node = n }))

  pub type-dictionary : (spot : Spot) (key value : TypeExpr) → type_by number_of (record { spot = spot; node = node.Dictionary key value }) ≡ dictionary_of (written_of number_of key) (written_of number_of value)
  unfolding node_at
  type-dictionary spot key value =
      type-node spot (node.Dictionary key value)
      ∙ ap (λ n. node_at n spot) (sym (node.rolls-Dictionary key value))
      ∙ ap (λ (f : Spot → Found Shape). f spot) (fold-roll-TypeNode (Spot → Found Shape) Written (node_found number_of) (written_step number_of) (layer.Dictionary key value))

  -- a value's type that is refused, behind a key's that isn't
  pub dictionary_refused : (spot : Spot) (key value first second : TypeExpr) (e : Refusal) → first ≡ key → second ≡ value → (type_by number_of first).faults ≡ [] → Finds {A = Shape} (Err e) (type_by number_of second) → Finds {A = Shape} (Err e) (type_by number_of (record { spot = spot; node = node.Dictionary key value }))
  dictionary_refused spot key value first second e first_is second_is none h =
      rw (type-dictionary, ← first_is, ← second_is) (refuses_before e _ _ (refuses_behind e _ _ none h))
