-- Emptied values: their keys are in the order that they had.
use Rattle.std.proofs.Common.{◌≡◌, ◌+◌, ◌<◌, ◌∷◌, ◌++◌}
use Rattle.value_steps.proofs.Common.{ℕ, zero, suc, List, [], map, take, get_or, refl, sym, ap, ◌∙◌, subst, add-one, length, take-suc, AllByRecursion, Less, Value, Value-F, out-Value, roll-Value, roll-out-Value, map-Value, Pair, out-Pair, roll-Pair, roll-out-Pair, Scalar, AscendFrom, KeysAscend, order_of, scalar_cmp, scalar_of, emptied, emptied_step, entry, emptied_entry}
use Rattle.std.proofs.lemmas.List.{map-append}
use Rattle.epl_values.specs.declared.value.Value.{fold-roll-Value}
use Rattle.epl_values.specs.declared.value.Value.TheOpen as layer
use Rattle.epl_values.specs.declared.value.Value.TheVariants as value
use Rattle.epl_values.specs.declared.value.Pair.{fold-Pair, fold-roll-Pair}
use Rattle.epl_values.specs.Order.{pair_scalar, scalar_step}
use Rattle.body_meaning.specs.Effects.{emptied_pair}

pub rolled : (l : Value-F Value Pair) → emptied (roll-Value l) ≡ emptied_step (map-Value Value Pair Value Pair emptied emptied_entry l)
rolled l = fold-roll-Value Value Pair emptied_step emptied_pair l

scalar_rolled : (l : Value-F Value Pair) → scalar_of (roll-Value l) ≡ scalar_step (map-Value Value Pair Scalar Scalar scalar_of (fold-Pair Scalar Scalar scalar_step pair_scalar) l)
scalar_rolled l = fold-roll-Value Scalar Scalar scalar_step pair_scalar l

scalar_layer : (l : Value-F Value Pair) → scalar_of (emptied (roll-Value l)) ≡ scalar_of (roll-Value l)
scalar_layer (layer.Integer n) = ap scalar_of (rolled (layer.Integer n) ∙ sym (value.rolls-Integer n))
scalar_layer (layer.Boolean b) = ap scalar_of (rolled (layer.Boolean b) ∙ sym (value.rolls-Boolean b))
scalar_layer (layer.Text t) = ap scalar_of (rolled (layer.Text t) ∙ sym (value.rolls-Text t))
scalar_layer (layer.Sequence items) = ap scalar_of (rolled (layer.Sequence items) ∙ sym (value.rolls-Sequence (map emptied items))) ∙ scalar_rolled (layer.Sequence (map emptied items)) ∙ sym (scalar_rolled (layer.Sequence items))
scalar_layer (layer.Dictionary pairs) = ap scalar_of (rolled (layer.Dictionary pairs) ∙ sym (value.rolls-Dictionary (map emptied_entry pairs))) ∙ scalar_rolled (layer.Dictionary (map emptied_entry pairs)) ∙ sym (scalar_rolled (layer.Dictionary pairs))
scalar_layer (layer.Event n fields) = ap scalar_of (rolled (layer.Event n fields) ∙ sym (value.rolls-Event n (map emptied fields))) ∙ scalar_rolled (layer.Event n (map emptied fields)) ∙ sym (scalar_rolled (layer.Event n fields))
scalar_layer (layer.Context slot) = ap scalar_of (rolled (layer.Context slot) ∙ sym (value.rolls-Context slot))
scalar_layer layer.NoContext = ap scalar_of (rolled layer.NoContext ∙ sym value.rolls-NoContext)
scalar_layer (layer.Listener birth) = ap scalar_of (rolled (layer.Listener birth) ∙ sym (value.rolls-Listener 0)) ∙ scalar_rolled (layer.Listener 0) ∙ sym (scalar_rolled (layer.Listener birth))

scalar_same : (v : Value) → scalar_of (emptied v) ≡ scalar_of v
scalar_same v = subst (λ w. scalar_of (emptied w) ≡ scalar_of w) (roll-out-Value v) (scalar_layer (out-Value v))

-- an entry of which both parts are emptied
pub entry_is : (p : Pair) → emptied_entry p ≡ entry (emptied (out-Pair p).key) (emptied (out-Pair p).value)
entry_is p = ap emptied_entry (sym (roll-out-Pair p)) ∙ fold-roll-Pair Value Pair emptied_step emptied_pair (out-Pair p)

key_is : (p : Pair) → (out-Pair (emptied_entry p)).key ≡ emptied (out-Pair p).key
key_is p = ap (λ q. (out-Pair q).key) (entry_is p)

all_behind : (first : Pair) (ps : List Pair) → AllByRecursion (λ k. order_of (out-Pair first).key k ≡ Less) (map (λ p. p.key) ps) → AllByRecursion (λ k. order_of (out-Pair (emptied_entry first)).key k ≡ Less) (map (λ p. p.key) (map emptied_entry ps))
all_behind first [] a = tt
all_behind first (p ∷ ps) a =
    let one : scalar_of (out-Pair (emptied_entry first)).key ≡ scalar_of (out-Pair first).key = ap scalar_of (key_is first) ∙ scalar_same (out-Pair first).key in
    let two : scalar_of (out-Pair (emptied_entry p)).key ≡ scalar_of (out-Pair p).key = ap scalar_of (key_is p) ∙ scalar_same (out-Pair p).key in
    (ap (λ s. scalar_cmp s (scalar_of (out-Pair (emptied_entry p)).key)) one ∙ ap (scalar_cmp (scalar_of (out-Pair first).key)) two ∙ a.0, all_behind first ps a.1)

pub ascend_emptied : (ps : List Pair) → KeysAscend ps → KeysAscend (map emptied_entry ps)
ascend_emptied [] a = tt
ascend_emptied (p ∷ ps) a = (all_behind p ps a.0, ascend_emptied ps a.1)

all_taken : (P : Value → Type 0) (ps : List Pair) (n : ℕ) → AllByRecursion P (map (λ p. p.key) ps) → AllByRecursion P (map (λ p. p.key) (take n ps))
all_taken P [] zero a = tt
all_taken P [] (suc n) a = tt
all_taken P (p ∷ ps) zero a = tt
all_taken P (p ∷ ps) (suc n) a = (a.0, all_taken P ps n a.1)

ascend_taken : (ps : List Pair) (n : ℕ) → KeysAscend ps → KeysAscend (take n ps)
ascend_taken [] zero a = tt
ascend_taken [] (suc n) a = tt
ascend_taken (p ∷ ps) zero a = tt
ascend_taken (p ∷ ps) (suc n) a = (all_taken (λ k. order_of (out-Pair p).key k ≡ Less) ps n a.0, ascend_taken ps n a.1)

-- one more entry of a dictionary
pub next_is : (copies ps : List Pair) (i : ℕ) (key v : Value) (p : Pair) → copies ≡ map emptied_entry (take i ps) → i < length ps → p ≡ get_or ps i p → key ≡ emptied (out-Pair p).key → v ≡ emptied (out-Pair p).value → copies ++ entry key v ∷ [] ≡ map emptied_entry (take (i + 1) ps)
next_is copies ps i key v p c lt at k e =
    let made : entry key v ≡ emptied_entry p = ap (λ x. entry x v) k ∙ ap (entry (emptied (out-Pair p).key)) e ∙ sym (entry_is p) in
    let grown : take (i + 1) ps ≡ take i ps ++ p ∷ [] = ap (λ n. take n ps) (add-one i) ∙ take-suc ps i p lt ∙ ap (λ q. take i ps ++ q ∷ []) (sym at) in
    ap (λ xs. xs ++ entry key v ∷ []) c ∙ ap (λ q. map emptied_entry (take i ps) ++ q ∷ []) made ∙ sym (ap (map emptied_entry) grown ∙ map-append emptied_entry (take i ps) (p ∷ []))

pub next_ascends : (copies ps : List Pair) (i : ℕ) (key v : Value) (p : Pair) → copies ≡ map emptied_entry (take i ps) → i < length ps → p ≡ get_or ps i p → key ≡ emptied (out-Pair p).key → v ≡ emptied (out-Pair p).value → KeysAscend ps → KeysAscend (copies ++ entry key v ∷ [])
next_ascends copies ps i key v p c lt at k e a = subst KeysAscend (sym (next_is copies ps i key v p c lt at k e)) (ascend_emptied (take (i + 1) ps) (ascend_taken ps (i + 1) a))
