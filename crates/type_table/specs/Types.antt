-- The shape of a type as it is written, and its faults: parts first, a key at its own place.
use Rattle.std.specs.Prelude.{ℕ, Bool, true, false, if◌then◌else◌, List, [], ◌∷◌, ◌++◌, Option, Some, None, ◌||◌, min}
use Rattle.span_text.specs.declared.spot.Spot.{Spot}
use Rattle.type_table.specs.declared.fault.Fault.{Fault}
use Rattle.epl_values.specs.declared.shape.Shape.{Shape}
use Rattle.epl_values.specs.declared.shape.Shape.TheVariants as shape
use Rattle.epl_tree.specs.declared.types.TypeExpr.{TypeExpr, TypeExpr-F, fold-TypeExpr}
use Rattle.epl_tree.specs.declared.types.TypeNode.{TypeNode-F}
use Rattle.epl_tree.specs.declared.types.TypeNode.TheOpen as node
use Rattle.typed_program.specs.Shapes.{is_scalar}
use Rattle.type_table.specs.declared.table.Table.{Table}
use Rattle.type_table.specs.Found.{Found, told}
use Rattle.type_table.specs.Table.{event_of}

abbrev pub sound : Shape → Found Shape
sound s = record { faults = []; part = s }

-- the event type of a name, the first of that name; 2 where there is none. No program that is accepted has a number past 999
abbrev pub event_shape : Spot → Option ℕ → Found Shape
event_shape spot (Some n) = sound (shape.Event (min 65535 n))
event_shape spot None = record { faults = told spot (2 ∷ []); part = shape.Integer }

-- 3 where a key isn't scalar
abbrev pub key_codes : Shape → List ℕ
key_codes s = if is_scalar s then [] else 3 ∷ []

-- a type at its spot
pub record Written : Type 0 where
  pub spot : Spot
  pub found : Found Shape

abbrev pub sequence_of : Written → Found Shape
sequence_of item = record { faults = item.found.faults; part = shape.Sequence item.found.part }

abbrev pub dictionary_of : Written → Written → Found Shape
dictionary_of key value = record { faults = key.found.faults ++ value.found.faults ++ told key.spot (key_codes key.found.part); part = shape.Dictionary key.found.part value.found.part }

module _ (number_of : List ℕ → Option ℕ) where
  abbrev pub node_found : TypeNode-F (Spot → Found Shape) Written → Spot → Found Shape
  node_found node.Integer spot = sound shape.Integer
  node_found node.Boolean spot = sound shape.Boolean
  node_found node.Text spot = sound shape.Text
  node_found node.Context spot = sound shape.Context
  node_found node.Listener spot = sound shape.Listener
  node_found (node.Named name) spot = event_shape spot (number_of name)
  node_found (node.Sequence item) spot = sequence_of item
  node_found (node.Dictionary key value) spot = dictionary_of key value

  abbrev pub written_step : TypeExpr-F (Spot → Found Shape) Written → Written
  written_step t = record { spot = t.spot; found = t.node t.spot }

  abbrev pub written_of : TypeExpr → Written
  written_of = fold-TypeExpr (Spot → Found Shape) Written node_found written_step

-- a type where these are the numbers of the event types
abbrev pub type_by : (List ℕ → Option ℕ) → TypeExpr → Found Shape
type_by number_of t = (written_of number_of t).found

abbrev pub type_found : Table → TypeExpr → Found Shape
type_found table = type_by (event_of table)

-- the shape, where the type has no fault
abbrev pub known_shape : List Fault → Shape → Option Shape
known_shape [] shape = Some shape
known_shape (fault ∷ faults) shape = None

abbrev pub known : Found Shape → Option Shape
known found = known_shape found.faults found.part
