-- What methods make of values in order is in order.
use Rattle.std.proofs.Common.{◌≡◌, ◌∷◌, ◌++◌}
use Rattle.value_steps.proofs.Common.{ℕ, zero, suc, Bool, true, false, List, [], map, Option, Some, None, Ok, Err, refl, sym, ap, ◌∙◌, subst, ℤ, Result, slice_get, remove, is_some, nat_lt, AllByRecursion, Less, Value, Value-F, out-Value, roll-Value, Pair, out-Pair, AscendFrom, KeysAscend, order_of, Method, Fault, integer_of, natural, at_key, is_key, with_entry, without_entry, added_in, appended_in, changed_by, cleared_in, first, removed_in, removed_key, removed_place, second, AreOrderly, IsOrderlyPair, AreOrderlyPairs, KeysInOrder}
use Rattle.std.specs.Prelude.{if◌then◌else◌, length}
use Rattle.epl_values.specs.declared.value.Value.TheOpen as layer
use Rattle.epl_values.specs.declared.value.Value.TheVariants as value
use Rattle.typed_program.specs.declared.expression.Method.TheVariants as method
use Rattle.action_host.specs.declared.host.Fault.TheVariants as fault
use Rattle.value_steps.specs.Orderly.{IsOrderly}
use Rattle.value_steps.proofs.Ascending.{ascend_with}
use Rattle.value_steps.proofs.Kept.{all_joined, all_removed, fine, ok_same, with_orderly}
use Rattle.value_steps.proofs.Parted.{PartsInOrder, keys_orderly, orderly_made, parts_orderly}

-- ---- an entry taken out

without_step : (P : Value → Type 0) (key : Value) (p : Pair) (ps : List Pair) (b : Bool) → is_key key p ≡ b → AllByRecursion P (map (λ q. q.key) (p ∷ ps)) → AllByRecursion P (map (λ q. q.key) (without_entry key ps)) → AllByRecursion P (map (λ q. q.key) (without_entry key (p ∷ ps)))
without_step P key p ps true e a more = rw e a.1
without_step P key p ps false e a more = rw e (a.0, more)

keys_without : (P : Value → Type 0) (key : Value) (ps : List Pair) → AllByRecursion P (map (λ q. q.key) ps) → AllByRecursion P (map (λ q. q.key) (without_entry key ps))
keys_without P key [] a = tt
keys_without P key (p ∷ ps) a = without_step P key p ps (is_key key p) refl a (keys_without P key ps a.1)

ascend_step : (key : Value) (p : Pair) (ps : List Pair) (b : Bool) → is_key key p ≡ b → KeysAscend (p ∷ ps) → KeysAscend (without_entry key ps) → KeysAscend (without_entry key (p ∷ ps))
ascend_step key p ps true e a more = rw e a.1
ascend_step key p ps false e a more = rw e (keys_without (λ k. order_of (out-Pair p).key k ≡ Less) key ps a.0, more)

pub ascend_without : (key : Value) (ps : List Pair) → KeysAscend ps → KeysAscend (without_entry key ps)
ascend_without key [] a = tt
ascend_without key (p ∷ ps) a = ascend_step key p ps (is_key key p) refl a (ascend_without key ps a.1)

parts_step : (key : Value) (p : Pair) (ps : List Pair) (b : Bool) → is_key key p ≡ b → AreOrderlyPairs (p ∷ ps) → AreOrderlyPairs (without_entry key ps) → AreOrderlyPairs (without_entry key (p ∷ ps))
parts_step key p ps true e a more = rw e a.1
parts_step key p ps false e a more = rw e (a.0, more)

without_orderly : (key : Value) (ps : List Pair) → AreOrderlyPairs ps → AreOrderlyPairs (without_entry key ps)
without_orderly key [] a = tt
without_orderly key (p ∷ ps) a = parts_step key p ps (is_key key p) refl a (without_orderly key ps a.1)

-- ---- values made

pub sequence_orderly : (items : List Value) → AreOrderly items → IsOrderly (value.Sequence items)
sequence_orderly items a = subst IsOrderly (value.rolls-Sequence items) (orderly_made (layer.Sequence items) tt a)

pub dictionary_orderly : (pairs : List Pair) → KeysAscend pairs → AreOrderlyPairs pairs → IsOrderly (value.Dictionary pairs)
dictionary_orderly pairs o a = subst IsOrderly (value.rolls-Dictionary pairs) (orderly_made (layer.Dictionary pairs) o a)

pub event_orderly : (e : ℕ) (fields : List Value) → AreOrderly fields → IsOrderly (value.Event e fields)
event_orderly e fields a = subst IsOrderly (value.rolls-Event e fields) (orderly_made (layer.Event e fields) tt a)

pub none_orderly : IsOrderly value.NoContext
none_orderly = subst IsOrderly value.rolls-NoContext (orderly_made layer.NoContext tt tt)

pub integer_orderly : (n : ℤ) → IsOrderly (value.Integer n)
integer_orderly n = subst IsOrderly (value.rolls-Integer n) (orderly_made (layer.Integer n) tt tt)

pub truth_orderly : (b : Bool) → IsOrderly (value.Boolean b)
truth_orderly b = subst IsOrderly (value.rolls-Boolean b) (orderly_made (layer.Boolean b) tt tt)

pub text_orderly : (t : List ℕ) → IsOrderly (value.Text t)
text_orderly t = subst IsOrderly (value.rolls-Text t) (orderly_made (layer.Text t) tt tt)

pub context_orderly : (slot : ℕ) → IsOrderly (value.Context slot)
context_orderly slot = subst IsOrderly (value.rolls-Context slot) (orderly_made (layer.Context slot) tt tt)

pub listener_orderly : (birth : ℕ) → IsOrderly (value.Listener birth)
listener_orderly birth = subst IsOrderly (value.rolls-Listener birth) (orderly_made (layer.Listener birth) tt tt)

-- ---- methods

first_orderly : (arguments : List Value) → AreOrderly arguments → IsOrderly (first arguments)
first_orderly [] a = none_orderly
first_orderly (v ∷ vs) a = a.0

second_orderly : (arguments : List Value) → AreOrderly arguments → IsOrderly (second arguments)
second_orderly [] a = none_orderly
second_orderly (v ∷ vs) a = first_orderly vs a.1

appended_step : (x : Value) (l : Value-F Value Pair) → IsOrderly x → KeysInOrder l → PartsInOrder l → IsOrderly (appended_in x l)
appended_step x (layer.Sequence items) h o a = sequence_orderly (items ++ x ∷ []) (all_joined IsOrderly items (x ∷ []) a (h, tt))
appended_step x l h o a = orderly_made l o a

cleared_step : (l : Value-F Value Pair) → KeysInOrder l → PartsInOrder l → IsOrderly (cleared_in l)
cleared_step (layer.Sequence items) o a = sequence_orderly [] tt
cleared_step (layer.Dictionary pairs) o a = dictionary_orderly [] tt tt
cleared_step l o a = orderly_made l o a

added_step : (key x : Value) (l : Value-F Value Pair) → IsOrderly key → IsOrderly x → KeysInOrder l → PartsInOrder l → IsOrderly (added_in key x l)
added_step key x (layer.Dictionary pairs) k h o a = dictionary_orderly (with_entry key x pairs) (ascend_with key x pairs o) (with_orderly key x pairs a k h)
added_step key x l k h o a = orderly_made l o a

removed_if : (b : Bool) (v w : Value) (e : Fault) → IsOrderly v → (if b then Ok v else Err e) ≡ Ok w → IsOrderly w
removed_if true v w e o h = let same : v ≡ w = cc in subst IsOrderly same o
removed_if false v w e o h = cc

place_step : (items : List Value) (n : Option ℕ) (w : Value) → AreOrderly items → removed_place items n ≡ Ok w → IsOrderly w
place_step items None w a h = cc
place_step items (Some n) w a h = removed_if (nat_lt n (length items)) (value.Sequence (remove items n)) w fault.IndexOutOfRange (sequence_orderly (remove items n) (all_removed IsOrderly items n a)) h

removed_step : (x : Value) (l : Value-F Value Pair) (w : Value) → KeysInOrder l → PartsInOrder l → removed_in x l ≡ Ok w → IsOrderly w
removed_step x (layer.Sequence items) w o a h = place_step items (natural (integer_of x)) w a h
removed_step x (layer.Dictionary pairs) w o a h = removed_if (is_some (at_key x pairs)) (value.Dictionary (without_entry x pairs)) w fault.MissingKey (dictionary_orderly (without_entry x pairs) (ascend_without x pairs o) (without_orderly x pairs a)) h
removed_step x l w o a h = let same : roll-Value l ≡ w = cc in subst IsOrderly same (orderly_made l o a)

taken : (v w : Value) → fine v ≡ fine w → IsOrderly v → IsOrderly w
taken v w h o = subst IsOrderly (ok_same v w h) o

pub changed_orderly : (m : Method) (arguments : List Value) → AreOrderly arguments → (v w : Value) → IsOrderly v → changed_by m arguments v ≡ Ok w → IsOrderly w
changed_orderly method.Append arguments a v w o h = taken _ w h (appended_step (first arguments) (out-Value v) (first_orderly arguments a) (keys_orderly v o) (parts_orderly v o))
changed_orderly method.Remove arguments a v w o h = removed_step (first arguments) (out-Value v) w (keys_orderly v o) (parts_orderly v o) h
changed_orderly method.Clear arguments a v w o h = taken _ w h (cleared_step (out-Value v) (keys_orderly v o) (parts_orderly v o))
changed_orderly method.Add arguments a v w o h = taken _ w h (added_step (first arguments) (second arguments) (out-Value v) (first_orderly arguments a) (second_orderly arguments a) (keys_orderly v o) (parts_orderly v o))
changed_orderly m arguments a v w o h = taken v w h o
