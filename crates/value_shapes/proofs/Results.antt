-- What operators and methods give has its shape.
use Rattle.std.proofs.Common.{◌≡◌, ◌∷◌}
use Rattle.value_shapes.proofs.Common.{ℕ, ℤ, List, [], length, map, Bool, true, false, Ok, Err, subst, Result, Shape, EventShape, Value, Pair, out-Pair, order_of, Fault, integer_of, pairs_of, ok_same, Fit}
use Rattle.std.specs.Prelude.{if◌then◌else◌, nat_le, neg_ℤ}
use Rattle.epl_values.specs.declared.shape.Shape.TheVariants as shape
use Rattle.epl_values.specs.declared.value.Value.TheVariants as value
use Rattle.epl_tree.specs.declared.expression.Comparison.{Comparison}
use Rattle.epl_tree.specs.declared.expression.Operator.{Operator}
use Rattle.action_host.specs.declared.host.Fault.TheVariants as fault
use Rattle.body_meaning.specs.Values.{arithmetic, bounded, calculated, compared, fitting, holds, integer_result, negated}
use Rattle.body_meaning.specs.Methods.{keys_of, place_of, size_of}
use Rattle.value_steps.proofs.Kept.{fine}
use Rattle.value_shapes.proofs.Layers.{EachFit, EntriesFit}
use Rattle.value_shapes.proofs.Made.{boolean_fits, dictionary_entries, integer_fits, sequence_made, text_fits}

module _ (types : List EventShape) where
  -- ---- operators

  result_fits : (r : Result ℤ Fault) (x : Value) → integer_result r ≡ Ok x → Fit types x shape.Integer
  result_fits (Ok z) x h = subst (λ w. Fit types w shape.Integer) (ok_same (value.Integer z) x h) (integer_fits types z)
  result_fits (Err e) x h = cc

  pub calculated_fits : (o : Operator) (v w x : Value) → calculated o v w ≡ Ok x → Fit types x shape.Integer
  calculated_fits o v w x h = result_fits (arithmetic o (integer_of v) (integer_of w)) x h

  pub negated_fits : (v x : Value) → negated v ≡ Ok x → Fit types x shape.Integer
  negated_fits v x h = result_fits (fitting (neg_ℤ (integer_of v))) x h

  pub compared_fits : (c : Comparison) (v w : Value) → Fit types (compared c v w) shape.Boolean
  compared_fits c v w = boolean_fits types (holds c (order_of v w))

  -- ---- texts

  text_if : (b : Bool) (text : List ℕ) (v : Value) → (if b then fine (value.Text text) else Err fault.TextTooLong) ≡ Ok v → Fit types v shape.Text
  text_if true text v h = subst (λ w. Fit types w shape.Text) (ok_same (value.Text text) v h) (text_fits types text)
  text_if false text v h = cc

  pub bounded_fits : (text : List ℕ) (v : Value) → bounded text ≡ Ok v → Fit types v shape.Text
  bounded_fits text v h = text_if (nat_le (length text) 1048576) text v h

  -- ---- methods

  keys_each : (pairs : List Pair) (k item : Shape) → EntriesFit types k item pairs → EachFit types k (map (λ p. (out-Pair p).key) pairs)
  keys_each [] k item a = tt
  keys_each (p ∷ ps) k item a = (a.0.0, keys_each ps k item a.1)

  -- the keys of a dictionary
  pub keys_fit : (v : Value) (k item : Shape) → Fit types v (shape.Dictionary k item) → Fit types (keys_of v) (shape.Sequence k)
  keys_fit v k item f = sequence_made types (map (λ p. (out-Pair p).key) (pairs_of v)) k (keys_each (pairs_of v) k item (dictionary_entries types v k item f).0)

  pub size_fits : (v : Value) → Fit types (size_of v) shape.Integer
  size_fits v = integer_fits types _

  pub place_of_fits : (x v : Value) → Fit types (place_of x v) shape.Integer
  place_of_fits x v = integer_fits types _
