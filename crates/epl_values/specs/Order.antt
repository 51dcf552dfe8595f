-- The order of scalar values, and when the entries of a dictionary are in order.
use Rattle.std.specs.Prelude.{◌≡◌, ℕ, ℤ, Bool, true, false, List, [], ◌∷◌, map}
use Rattle.std.specs.List.{AllByRecursion}
use Rattle.std.specs.declared.cmp.Ordering.{Ordering}
use Rattle.std.specs.declared.cmp.Ordering.TheVariants.{Less, Equal, Greater}
use Rattle.std.specs.Ordering.{nat_cmp, int_cmp}
use Rattle.std.specs.Cmp.Lexicographic.{slice_cmp}
use Rattle.epl_values.specs.declared.value.Value.{Value, Value-F, fold-Value}
use Rattle.epl_values.specs.declared.value.Value.TheOpen as layer
use Rattle.epl_values.specs.declared.value.Pair.{Pair, Pair-F}

-- what the order sees of a value: a number, a truth, the bytes of a text, or no scalar
pub data Scalar : Type 0 where
  Number : ℤ → Scalar
  Truth : Bool → Scalar
  Letters : List ℕ → Scalar
  Other : Scalar

abbrev pub scalar_step : Value-F Scalar Scalar → Scalar
scalar_step (layer.Integer n) = Number n
scalar_step (layer.Boolean b) = Truth b
scalar_step (layer.Text t) = Letters t
scalar_step (layer.Sequence xs) = Other
scalar_step (layer.Dictionary ps) = Other
scalar_step (layer.Event n xs) = Other
scalar_step (layer.Context c) = Other
scalar_step layer.NoContext = Other
scalar_step (layer.Listener l) = Other

abbrev pub pair_scalar : Pair-F Scalar Scalar → Scalar
pair_scalar p = Other

abbrev pub scalar_of : Value → Scalar
scalar_of = fold-Value Scalar Scalar scalar_step pair_scalar

-- false is before true
abbrev pub bool_cmp : Bool → Bool → Ordering
bool_cmp false false = Equal
bool_cmp false true = Less
bool_cmp true false = Greater
bool_cmp true true = Equal

-- numbers by value, truths, texts by bytes; values of two kinds have no order
abbrev pub scalar_cmp : Scalar → Scalar → Ordering
scalar_cmp (Number a) (Number b) = int_cmp a b
scalar_cmp (Truth a) (Truth b) = bool_cmp a b
scalar_cmp (Letters a) (Letters b) = slice_cmp nat_cmp a b
scalar_cmp a b = Equal

-- the order of two values of one scalar kind
abbrev pub order_of : Value → Value → Ordering
order_of a b = scalar_cmp (scalar_of a) (scalar_of b)

-- each key is before all those behind it
abbrev pub AscendFrom : List Value → Type 0
AscendFrom [] = Unit {0}
AscendFrom (key ∷ keys) = AllByRecursion (λ k. order_of key k ≡ Less) keys × AscendFrom keys

-- the keys of these pairs ascend
abbrev pub KeysAscend : List Pair → Type 0
KeysAscend pairs = AscendFrom (map (λ p. p.key) pairs)
