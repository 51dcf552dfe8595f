-- A value in order that is emptied is in order.
use Rattle.std.proofs.Common.{◌≡◌, ◌∷◌}
use Rattle.value_steps.proofs.Common.{List, [], map, refl, sym, ap, ◌∙◌, subst, Value, Value-F, out-Value, roll-Value, map-Value, Pair-F, Pair, out-Pair, roll-Pair, map-Pair, emptied, emptied_step, emptied_entry, AreOrderly, IsOrderlyPair, AreOrderlyPairs, KeysInOrder}
use Rattle.epl_values.specs.declared.value.Value.{out-roll-Value, ind-Value}
use Rattle.epl_values.specs.declared.value.Value.TheOpen as layer
use Rattle.value_steps.specs.Orderly.{IsOrderly}
use Rattle.value_steps.proofs.Called.{context_orderly, dictionary_orderly, event_orderly, integer_orderly, listener_orderly, none_orderly, sequence_orderly, text_orderly, truth_orderly}
use Rattle.value_steps.proofs.Emptying.{ascend_emptied, entry_is, rolled}
use Rattle.value_steps.proofs.Parted.{PartsInOrder, keys_orderly, parts_orderly}

abbrev Stays : Value → Type 0
Stays v = IsOrderly v → IsOrderly (emptied v)

abbrev PairStays : Pair → Type 0
PairStays p = IsOrderlyPair p → IsOrderlyPair (emptied_entry p)

abbrev Known : Type 0
Known = (v : Value) × Stays v

abbrev KnownPair : Type 0
KnownPair = (p : Pair) × PairStays p

abbrev values_in : Value-F Known KnownPair → Value-F Value Pair
values_in y = map-Value Known KnownPair Value Pair (λ e. e.0) (λ e. e.0) y

abbrev parts_in : Pair-F Known KnownPair → Pair-F Value Pair
parts_in y = map-Pair Known KnownPair Value Pair (λ e. e.0) (λ e. e.0) y

values_stay : (zs : List Known) → AreOrderly (map (λ z. z.0) zs) → AreOrderly (map emptied (map (λ z. z.0) zs))
values_stay [] a = tt
values_stay (z ∷ zs) a = (z.1 a.0, values_stay zs a.1)

pairs_stay : (zs : List KnownPair) → AreOrderlyPairs (map (λ z. z.0) zs) → AreOrderlyPairs (map emptied_entry (map (λ z. z.0) zs))
pairs_stay [] a = tt
pairs_stay (z ∷ zs) a = (z.1 a.0, pairs_stay zs a.1)

layer_stays : (y : Value-F Known KnownPair) → KeysInOrder (values_in y) → PartsInOrder (values_in y) → IsOrderly (emptied_step (map-Value Value Pair Value Pair emptied emptied_entry (values_in y)))
layer_stays (layer.Integer n) o a = integer_orderly n
layer_stays (layer.Boolean b) o a = truth_orderly b
layer_stays (layer.Text t) o a = text_orderly t
layer_stays (layer.Sequence zs) o a = sequence_orderly (map emptied (map (λ z. z.0) zs)) (values_stay zs a)
layer_stays (layer.Dictionary zs) o a = dictionary_orderly (map emptied_entry (map (λ z. z.0) zs)) (ascend_emptied (map (λ z. z.0) zs) o) (pairs_stay zs a)
layer_stays (layer.Event n zs) o a = event_orderly n (map emptied (map (λ z. z.0) zs)) (values_stay zs a)
layer_stays (layer.Context slot) o a = context_orderly slot
layer_stays layer.NoContext o a = none_orderly
layer_stays (layer.Listener birth) o a = listener_orderly 0

value_case : (x : Value-F Value Pair) (y : Value-F Known KnownPair) → values_in y ≡ x → Stays (roll-Value x)
value_case x y is = subst (λ (z : Value-F Value Pair). Stays (roll-Value z)) is (λ o. subst IsOrderly (sym (rolled (values_in y))) (layer_stays y (subst KeysInOrder (out-roll-Value (values_in y)) (keys_orderly (roll-Value (values_in y)) o)) (subst PartsInOrder (out-roll-Value (values_in y)) (parts_orderly (roll-Value (values_in y)) o))))

pair_case : (x : Pair-F Value Pair) (y : Pair-F Known KnownPair) → parts_in y ≡ x → PairStays (roll-Pair x)
pair_case x y is = subst (λ (z : Pair-F Value Pair). PairStays (roll-Pair z)) is (λ o. subst IsOrderlyPair (sym (entry_is (roll-Pair (parts_in y)))) (y.key.1 o.0, y.value.1 o.1))

pub emptied_orderly : (v : Value) → IsOrderly v → IsOrderly (emptied v)
emptied_orderly = ind-Value Stays PairStays value_case pair_case
