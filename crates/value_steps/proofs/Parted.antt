-- Values in order: their parts, and what is made of parts in order.
use Rattle.std.proofs.Common.{◌≡◌, ◌∷◌, ◌++◌}
use Rattle.value_steps.proofs.Common.{ℕ, zero, suc, List, [], map, Some, refl, sym, ap, ◌∙◌, subst, AllByRecursion, Value, Value-F, out-Value, roll-Value, roll-out-Value, map-Value, Pair-F, Pair, out-Pair, roll-Pair, roll-out-Pair, map-Pair, KeysAscend, AreOrderly, IsOrderlyPair, AreOrderlyPairs, KeysInOrder}
use Rattle.epl_values.specs.declared.value.Value.{every-Value, every_here-Value, every_held-Value, every_made-Value}
use Rattle.epl_values.specs.declared.value.Value.TheOpen as layer
use Rattle.epl_values.specs.declared.value.Value.TheVariants as value
use Rattle.epl_values.specs.declared.value.Pair.{every-Pair, every_here-Pair, every_held-Pair, every_made-Pair}
use Rattle.value_steps.specs.Orderly.{IsOrderly, NothingAsked}

-- ---- lists of parts that are in order

-- things with what is known of them
held : {A : Type 0} (P : A → Type 0) (zs : List ((v : A) × P v)) (items : List A) → map (λ z. z.0) zs ≡ items → AllByRecursion P items
held P [] items e = subst (AllByRecursion P) e tt
held P (z ∷ zs) items e = subst (AllByRecursion P) e (z.1, held P zs (map (λ z. z.0) zs) refl)

packed : {A : Type 0} (P : A → Type 0) (items : List A) → AllByRecursion P items → (zs : List ((v : A) × P v)) × (map (λ z. z.0) zs ≡ items)
packed P [] a = ([], refl)
packed P (v ∷ vs) a = let more = packed P vs a.1 in ((v, a.0) ∷ more.0, ap (λ xs. v ∷ xs) more.1)

abbrev Known : Type 0
Known = (v : Value) × every-Value KeysInOrder NothingAsked v

abbrev KnownPair : Type 0
KnownPair = (p : Pair) × every-Pair KeysInOrder NothingAsked p

-- ---- entries

pair_parts : (p : Pair) → every-Pair KeysInOrder NothingAsked p → IsOrderlyPair p
unfolding IsOrderly
pair_parts p h =
    let y = every_held-Pair KeysInOrder NothingAsked p h in
    (subst IsOrderly (ap (λ r. r.key) y.1) y.0.key.1, subst IsOrderly (ap (λ r. r.value) y.1) y.0.value.1)

pair_made : (p : Pair) → IsOrderlyPair p → every-Pair KeysInOrder NothingAsked p
unfolding IsOrderly
pair_made p h =
    let y : Pair-F Known KnownPair = record { key = ((out-Pair p).key, h.0); value = ((out-Pair p).value, h.1) } in
    subst (every-Pair KeysInOrder NothingAsked) (roll-out-Pair p) (every_made-Pair KeysInOrder NothingAsked (out-Pair p) y refl tt)

pairs_parts : (ps : List Pair) → AllByRecursion (every-Pair KeysInOrder NothingAsked) ps → AreOrderlyPairs ps
pairs_parts [] h = tt
pairs_parts (p ∷ ps) h = (pair_parts p h.0, pairs_parts ps h.1)

pairs_made : (ps : List Pair) → AreOrderlyPairs ps → AllByRecursion (every-Pair KeysInOrder NothingAsked) ps
pairs_made [] h = tt
pairs_made (p ∷ ps) h = (pair_made p h.0, pairs_made ps h.1)

-- ---- parts

-- what is in order below a layer
abbrev pub PartsInOrder : Value-F Value Pair → Type 0
PartsInOrder (layer.Sequence items) = AreOrderly items
PartsInOrder (layer.Dictionary pairs) = AreOrderlyPairs pairs
PartsInOrder (layer.Event n fields) = AreOrderly fields
PartsInOrder v = Unit {0}

parts_held : (y : Value-F Known KnownPair) → PartsInOrder (map-Value Known KnownPair Value Pair (λ e. e.0) (λ e. e.0) y)
unfolding IsOrderly
parts_held (layer.Sequence zs) = held (every-Value KeysInOrder NothingAsked) zs (map (λ z. z.0) zs) refl
parts_held (layer.Dictionary zs) = pairs_parts (map (λ z. z.0) zs) (held (every-Pair KeysInOrder NothingAsked) zs (map (λ z. z.0) zs) refl)
parts_held (layer.Event n zs) = held (every-Value KeysInOrder NothingAsked) zs (map (λ z. z.0) zs) refl
parts_held y = tt

-- the parts of a value in order are in order, and so are its keys
pub parts_orderly : (v : Value) → IsOrderly v → PartsInOrder (out-Value v)
unfolding IsOrderly
parts_orderly v h = let y = every_held-Value KeysInOrder NothingAsked v h in subst PartsInOrder y.1 (parts_held y.0)

pub keys_orderly : (v : Value) → IsOrderly v → KeysInOrder (out-Value v)
unfolding IsOrderly
keys_orderly v h = every_here-Value KeysInOrder NothingAsked v h

known : (d : Value-F Value Pair) → PartsInOrder d → (y : Value-F Known KnownPair) × (map-Value Known KnownPair Value Pair (λ e. e.0) (λ e. e.0) y ≡ d)
unfolding IsOrderly
known (layer.Integer n) h = (layer.Integer n, refl)
known (layer.Boolean b) h = (layer.Boolean b, refl)
known (layer.Text t) h = (layer.Text t, refl)
known (layer.Sequence items) h = let zs = packed (every-Value KeysInOrder NothingAsked) items h in (layer.Sequence zs.0, ap (λ xs. layer.Sequence xs) zs.1)
known (layer.Dictionary pairs) h = let zs = packed (every-Pair KeysInOrder NothingAsked) pairs (pairs_made pairs h) in (layer.Dictionary zs.0, ap (λ xs. layer.Dictionary xs) zs.1)
known (layer.Event n fields) h = let zs = packed (every-Value KeysInOrder NothingAsked) fields h in (layer.Event n zs.0, ap (λ xs. layer.Event n xs) zs.1)
known (layer.Context slot) h = (layer.Context slot, refl)
known layer.NoContext h = (layer.NoContext, refl)
known (layer.Listener birth) h = (layer.Listener birth, refl)

-- what is made of parts in order
pub orderly_made : (d : Value-F Value Pair) → KeysInOrder d → PartsInOrder d → IsOrderly (roll-Value d)
unfolding IsOrderly
orderly_made d keys parts = let y = known d parts in every_made-Value KeysInOrder NothingAsked d y.0 y.1 keys

-- ---- the parts of each kind of value

pub sequence_parts : (v : Value) (items : List Value) → v ≡ value.Sequence items → IsOrderly v → AreOrderly items
sequence_parts v items e o = subst PartsInOrder (ap out-Value e ∙ value.outs-Sequence items) (parts_orderly v o)

pub event_parts : (v : Value) (n : ℕ) (fields : List Value) → v ≡ value.Event n fields → IsOrderly v → AreOrderly fields
event_parts v n fields e o = subst PartsInOrder (ap out-Value e ∙ value.outs-Event n fields) (parts_orderly v o)

pub dictionary_parts : (v : Value) (pairs : List Pair) → v ≡ value.Dictionary pairs → IsOrderly v → AreOrderlyPairs pairs
dictionary_parts v pairs e o = subst PartsInOrder (ap out-Value e ∙ value.outs-Dictionary pairs) (parts_orderly v o)

pub dictionary_keys : (v : Value) (pairs : List Pair) → v ≡ value.Dictionary pairs → IsOrderly v → KeysAscend pairs
dictionary_keys v pairs e o = subst KeysInOrder (ap out-Value e ∙ value.outs-Dictionary pairs) (keys_orderly v o)
