-- Values that have their shapes, with dictionaries in order, and the steps of paths between shapes.
use Rattle.std.specs.Prelude.{◌≡◌, ℕ, true, List, [], ◌∷◌, map, Option, Some, None, slice_get}
use Rattle.epl_values.specs.declared.shape.Shape.{Shape, Shape-F, out-Shape}
use Rattle.epl_values.specs.declared.shape.Shape.TheOpen as layer
use Rattle.epl_values.specs.declared.shape.Shape.TheVariants as shape
use Rattle.epl_values.specs.declared.shape.EventShape.{EventShape}
use Rattle.epl_values.specs.declared.value.Value.{Value, Value-F, out-Value}
use Rattle.epl_values.specs.declared.value.Value.TheOpen as value
use Rattle.value_rules.specs.Shapes.{has, shapes_have}
use Rattle.event_types.specs.Types.{fields_of}
use Rattle.body_meaning.specs.declared.run.Move.{Move}
use Rattle.body_meaning.specs.declared.run.Move.TheVariants as move
use Rattle.value_steps.specs.Orderly.{IsOrderly, AreOrderly}

-- a value has a shape, and the keys of the dictionaries in it ascend
pub record Fit (types : List EventShape) (v : Value) (s : Shape) : Type 0 where
  pub has : has types v s ≡ true
  pub order : IsOrderly v

-- values one by one of these shapes, and as many
pub record AllFit (types : List EventShape) (values : List Value) (shapes : List Shape) : Type 0 where
  pub have : shapes_have types values shapes ≡ true
  pub order : AreOrderly values

-- a value of a shape, where one is known
abbrev pub MayFit : List EventShape → Value → Option Shape → Type 0
MayFit types v None = Unit {0}
MayFit types v (Some s) = Fit types v s

-- values one by one of the shapes that are known, and as many
abbrev pub AllMayFit : List EventShape → List Value → List (Option Shape) → Type 0
AllMayFit types [] [] = Unit {0}
AllMayFit types (v ∷ vs) (s ∷ ss) = MayFit types v s × AllMayFit types vs ss
AllMayFit types vs ss = ⊥

-- an event of the type that it names
abbrev pub IsEvent : List EventShape → Value → Value-F Value Rattle.epl_values.specs.declared.value.Pair.Pair → Type 0
IsEvent types v (value.Event n fields) = Fit types v (shape.Event n)
IsEvent types v other = ⊥

-- a step of a path leads from a shape to another
abbrev pub StepsTo : List EventShape → Move → Shape-F Shape → Shape → Type 0
StepsTo types (move.Field i) (layer.Event n) t = slice_get (map (λ f. f.shape) (fields_of (slice_get types n))) i ≡ Some t
StepsTo types (move.Item i) (layer.Sequence item) t = item ≡ t
StepsTo types (move.Key key) (layer.Dictionary k item) t = Fit types key k × (item ≡ t)
StepsTo types m s t = ⊥

-- steps lead from a shape to another
abbrev pub LeadsTo : List EventShape → List Move → Shape → Shape → Type 0
LeadsTo types [] s t = s ≡ t
LeadsTo types (m ∷ ms) s t = (r : Shape) × StepsTo types m (out-Shape s) r × LeadsTo types ms r t
