-- Which shape a written type is.
use Rattle.std.specs.Prelude.{ℕ, List, Some, ◌≡◌}
use Rattle.epl_values.specs.declared.shape.EventShape.{EventShape}
use Rattle.epl_values.specs.declared.shape.Shape.{Shape, Shape-F, out-Shape}
use Rattle.epl_values.specs.declared.shape.Shape.TheOpen as shape
use Rattle.epl_tree.specs.declared.types.TypeExpr.{TypeExpr, out-TypeExpr}
use Rattle.epl_tree.specs.declared.types.TypeNode.{TypeNode, TypeNode-F, out-TypeNode}
use Rattle.epl_tree.specs.declared.types.TypeNode.TheOpen as tree
use Rattle.name_resolution.specs.Names.{type_named, held}

abbrev pub Written : Type 0
Written = TypeNode-F TypeNode TypeExpr

abbrev pub layer_of : TypeExpr → Written
layer_of w = out-TypeNode (out-TypeExpr w).node

mutual
  -- a written type is this shape
  pub data TypeIs (types : List EventShape) : TypeExpr → Shape → Type 0 where
    is : {w : TypeExpr} {s : Shape} → NodeIs types (layer_of w) (out-Shape s) → TypeIs types w s

  pub data NodeIs (types : List EventShape) : Written → Shape-F Shape → Type 0 where
    integer : NodeIs types tree.Integer shape.Integer
    boolean : NodeIs types tree.Boolean shape.Boolean
    text : NodeIs types tree.Text shape.Text
    context : NodeIs types tree.Context shape.Context
    listener : NodeIs types tree.Listener shape.Listener
    event : {name : List ℕ} {n : ℕ} → type_named types name ≡ Some n → NodeIs types (tree.Named name) (shape.Event (held n))
    sequence : {w : TypeExpr} {s : Shape} → TypeIs types w s → NodeIs types (tree.Sequence w) (shape.Sequence s)
    dictionary : {k v : TypeExpr} {key value : Shape} → TypeIs types k key → TypeIs types v value → NodeIs types (tree.Dictionary k v) (shape.Dictionary key value)
