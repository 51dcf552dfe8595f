-- When a value has a shape.
use Rattle.value_rules.specs.Common.{List, [], Bool, true, false, map, Option, Some, None, slice_get, Shape, Shape-F, EventShape, Value, Value-F, fold-Value, Pair, Pair-F, fold-Pair}
use Rattle.std.specs.Prelude.{◌∷◌, ◌==◌, ◌&&◌}
use Rattle.std.specs.List.{list_all}
use Rattle.epl_values.specs.declared.shape.Shape.{out-Shape}
use Rattle.epl_values.specs.declared.shape.Shape.TheOpen as shape
use Rattle.epl_values.specs.declared.value.Value.TheOpen as layer

-- which shapes a part of a value has
abbrev pub Fit : Type 0
Fit = Shape → Bool

-- which shapes of a key and of a value a pair has
abbrev pub PairFit : Type 0
PairFit = Shape → Shape → Bool

-- parts one by one of these shapes, and as many
abbrev pub all_fit : List Fit → List Shape → Bool
all_fit [] [] = true
all_fit (part ∷ parts) (s ∷ shapes) = part s && all_fit parts shapes
all_fit parts shapes = false

-- the parts are the fields of an event of this type, which is there
abbrev pub event_fits : List Fit → Option EventShape → Bool
event_fits parts None = false
event_fits parts (Some event) = all_fit parts (map (λ field. field.shape) event.fields)

-- a value of this kind, with these parts, has this shape
abbrev pub fits : List EventShape → Value-F Fit PairFit → Shape-F Shape → Bool
fits types (layer.Integer n) shape.Integer = true
fits types (layer.Boolean b) shape.Boolean = true
fits types (layer.Text bytes) shape.Text = true
fits types (layer.Sequence parts) (shape.Sequence element) = list_all (λ part. part element) parts
fits types (layer.Dictionary pairs) (shape.Dictionary key item) = list_all (λ pair. pair key item) pairs
fits types (layer.Event n parts) (shape.Event m) = n == m && event_fits parts (slice_get types n)
fits types (layer.Context slot) shape.Context = true
fits types layer.NoContext shape.Context = true
fits types (layer.Listener birth) shape.Listener = true
fits types v s = false

-- a pair's key and value are of these shapes
abbrev pub pair_fits : Pair-F Fit PairFit → PairFit
pair_fits pair key item = pair.key key && pair.value item

-- a value has a shape, over these event types
abbrev pub has : List EventShape → Value → Shape → Bool
has types = fold-Value Fit PairFit (λ v s. fits types v (out-Shape s)) pair_fits

-- a pair has a key and a value of these shapes
abbrev pub pair_has : List EventShape → Pair → Shape → Shape → Bool
pair_has types = fold-Pair Fit PairFit (λ v s. fits types v (out-Shape s)) pair_fits

-- values one by one of these shapes, and as many
abbrev pub shapes_have : List EventShape → List Value → List Shape → Bool
shapes_have types values shapes = all_fit (map (has types) values) shapes
