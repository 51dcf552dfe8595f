-- Changes keep values in order.
use Rattle.std.proofs.Common.{◌≡◌, ◌∷◌, ◌++◌}
use Rattle.value_steps.proofs.Common.{ℕ, zero, suc, Bool, true, false, List, [], map, Option, Some, None, Ok, Err, refl, sym, ap, ◌∙◌, subst, ℤ, Result, slice_get, slice_set, remove, is_some, nat_lt, option_and_then, AllByRecursion, Ordering, Less, Equal, Greater, Value, Value-F, out-Value, roll-Value, Pair, out-Pair, roll-Pair, KeysAscend, order_of, Method, Fault, Move, integer_of, natural, altered, at_key, entry, entry_value, is_key, or_fault, part, part_in, put, put_in, set_at, stored, then_try, with_entry, with_part, with_part_in, without_entry, added_in, appended_in, changed_by, cleared_in, first, removed_in, removed_key, removed_place, second, Trouble, Leaves, AreOrderly, IsOrderlyPair, AreOrderlyPairs, KeysInOrder}
use Rattle.std.specs.Prelude.{if◌then◌else◌, length}
use Rattle.epl_values.specs.declared.value.Value.TheOpen as layer
use Rattle.epl_values.specs.declared.value.Value.TheVariants as value
use Rattle.typed_program.specs.declared.expression.Method.TheVariants as method
use Rattle.action_host.specs.declared.host.Fault.TheVariants as fault
use Rattle.body_meaning.specs.declared.run.Move.TheVariants as move
use Rattle.value_steps.specs.declared.trouble.Trouble.TheVariants as trouble
use Rattle.value_steps.specs.Orderly.{IsOrderly, IsOrderlyMove, AreOrderlyMoves}
use Rattle.value_steps.proofs.Ascending.{ascend_with}
use Rattle.value_steps.proofs.Parted.{PartsInOrder, keys_orderly, orderly_made, parts_orderly}

-- ---- each of several

pub all_get : {A : Type 0} (P : A → Type 0) (xs : List A) (n : ℕ) (x : A) → AllByRecursion P xs → slice_get xs n ≡ Some x → P x
all_get P [] n x a e = cc
all_get P (y ∷ ys) zero x a e = let same : y ≡ x = cc in subst P same a.0
all_get P (y ∷ ys) (suc n) x a e = all_get P ys n x a.1 e

pub all_set : {A : Type 0} (P : A → Type 0) (xs : List A) (n : ℕ) (x : A) → AllByRecursion P xs → P x → AllByRecursion P (slice_set xs n x)
all_set P [] n x a h = tt
all_set P (y ∷ ys) zero x a h = (h, a.1)
all_set P (y ∷ ys) (suc n) x a h = (a.0, all_set P ys n x a.1 h)

pub all_joined : {A : Type 0} (P : A → Type 0) (xs ys : List A) → AllByRecursion P xs → AllByRecursion P ys → AllByRecursion P (xs ++ ys)
all_joined P [] ys a b = b
all_joined P (x ∷ xs) ys a b = (a.0, all_joined P xs ys a.1 b)

pub all_removed : {A : Type 0} (P : A → Type 0) (xs : List A) (n : ℕ) → AllByRecursion P xs → AllByRecursion P (remove xs n)
all_removed P [] zero a = tt
all_removed P [] (suc n) a = tt
all_removed P (x ∷ xs) zero a = a.1
all_removed P (x ∷ xs) (suc n) a = (a.0, all_removed P xs n a.1)

-- ---- entries

at_step : (key x : Value) (p : Pair) (ps : List Pair) (b : Bool) → is_key key p ≡ b → IsOrderlyPair p → (at_key key ps ≡ Some x → IsOrderly x) → at_key key (p ∷ ps) ≡ Some x → IsOrderly x
at_step key x p ps true e a more h =
    let here : Some (entry_value p) ≡ Some x = sym (rw e refl) ∙ h in
    let same : entry_value p ≡ x = cc in
    subst IsOrderly same a.1
at_step key x p ps false e a more h = let there : at_key key ps ≡ Some x = sym (rw e refl) ∙ h in more there

at_orderly : (key x : Value) (ps : List Pair) → AreOrderlyPairs ps → at_key key ps ≡ Some x → IsOrderly x
at_orderly key x [] a h = cc
at_orderly key x (p ∷ ps) a h = at_step key x p ps (is_key key p) refl a.0 (at_orderly key x ps a.1) h

with_step : (key v : Value) (p : Pair) (ps : List Pair) (o : Ordering) → order_of (out-Pair p).key key ≡ o → AreOrderlyPairs (p ∷ ps) → IsOrderly key → IsOrderly v → AreOrderlyPairs (with_entry key v ps) → AreOrderlyPairs (with_entry key v (p ∷ ps))
with_step key v p ps Less e a k h more = rw e (a.0, more)
with_step key v p ps Equal e a k h more = rw e ((a.0.0, h), a.1)
with_step key v p ps Greater e a k h more = rw e ((k, h), a)

pub with_orderly : (key v : Value) (ps : List Pair) → AreOrderlyPairs ps → IsOrderly key → IsOrderly v → AreOrderlyPairs (with_entry key v ps)
with_orderly key v [] a k h = ((k, h), tt)
with_orderly key v (p ∷ ps) a k h = with_step key v p ps (order_of (out-Pair p).key key) refl a k h (with_orderly key v ps a.1 k h)

-- ---- parts

abbrev pub fine : {A : Type 0} → A → Result A Fault
fine x = Ok x

pub ok_same : {A : Type 0} (x y : A) → fine x ≡ fine y → x ≡ y
ok_same x y h = cc

try_ok : {A B : Type 0} (p : Result A Fault) (F : A → Result B Fault) (w : B) → then_try p F ≡ Ok w → (x : A) × (p ≡ Ok x) × (F x ≡ Ok w)
try_ok (Ok x) F w h = (x, refl, h)
try_ok (Err e) F w h = cc

or_ok : {A : Type 0} (e : Fault) (o : Option A) (x : A) → or_fault e o ≡ Ok x → o ≡ Some x
or_ok e None x h = cc
or_ok e (Some y) x h = cc

place_orderly : (items : List Value) (n : Option ℕ) (x : Value) → AreOrderly items → option_and_then (slice_get items) n ≡ Some x → IsOrderly x
place_orderly items None x a h = cc
place_orderly items (Some n) x a h = all_get IsOrderly items n x a h

set_orderly : (items : List Value) (n : Option ℕ) (x : Value) → AreOrderly items → IsOrderly x → AreOrderly (set_at items n x)
set_orderly items None x a h = a
set_orderly items (Some n) x a h = all_set IsOrderly items n x a h

part_step : (m : Move) (l : Value-F Value Pair) (x : Value) → PartsInOrder l → part_in m l ≡ Ok x → IsOrderly x
part_step (move.Field n) (layer.Event e fields) x a h = all_get IsOrderly fields n x a (or_ok _ (slice_get fields n) x h)
part_step (move.Item at) (layer.Sequence items) x a h = place_orderly items (natural at) x a (or_ok _ _ x h)
part_step (move.Key key) (layer.Dictionary pairs) x a h = at_orderly key x pairs a (or_ok _ (at_key key pairs) x h)
part_step m l x a h = cc

-- a part of a value in order is in order
pub part_orderly : (m : Move) (v x : Value) → IsOrderly v → part m v ≡ Ok x → IsOrderly x
part_orderly m v x o h = part_step m (out-Value v) x (parts_orderly v o) h

with_part_step : (m : Move) (l : Value-F Value Pair) (x : Value) → IsOrderlyMove m → KeysInOrder l → PartsInOrder l → IsOrderly x → IsOrderly (with_part_in m l x)
with_part_step (move.Field n) (layer.Event e fields) x k o a h = subst IsOrderly (value.rolls-Event e (slice_set fields n x)) (orderly_made (layer.Event e (slice_set fields n x)) tt (all_set IsOrderly fields n x a h))
with_part_step (move.Item at) (layer.Sequence items) x k o a h = subst IsOrderly (value.rolls-Sequence (set_at items (natural at) x)) (orderly_made (layer.Sequence (set_at items (natural at) x)) tt (set_orderly items (natural at) x a h))
with_part_step (move.Key key) (layer.Dictionary pairs) x k o a h = subst IsOrderly (value.rolls-Dictionary (with_entry key x pairs)) (orderly_made (layer.Dictionary (with_entry key x pairs)) (ascend_with key x pairs o) (with_orderly key x pairs a k h))
with_part_step m l x k o a h = orderly_made l o a

-- with a part in order put in, a value in order stays so
pub with_part_orderly : (m : Move) (v x : Value) → IsOrderlyMove m → IsOrderly v → IsOrderly x → IsOrderly (with_part m v x)
with_part_orderly m v x k o h = with_part_step m (out-Value v) x k (keys_orderly v o) (parts_orderly v o) h

pub altered_orderly : (ms : List Move) (f : Value → Result Value Fault) → AreOrderlyMoves ms → ((v w : Value) → IsOrderly v → f v ≡ Ok w → IsOrderly w) → (v w : Value) → IsOrderly v → altered ms f v ≡ Ok w → IsOrderly w
altered_orderly [] f a keeps v w o h = keeps v w o h
altered_orderly (m ∷ ms) f a keeps v w o h =
    let found = try_ok (part m v) (λ x. then_try (altered ms f x) (λ y. Ok (with_part m v y))) w h in
    let made = try_ok (altered ms f found.0) (λ y. Ok (with_part m v y)) w found.2 in
    let same = ok_same (with_part m v made.0) w made.2 in
    let new = altered_orderly ms f a.1 keeps found.0 made.0 (part_orderly m v found.0 o found.1) made.1 in
    subst IsOrderly same (with_part_orderly m v made.0 a.0 o new)

-- ---- values put in

put_step : (m : Move) (x : Value) (l : Value-F Value Pair) (w : Value) → IsOrderlyMove m → IsOrderly x → KeysInOrder l → PartsInOrder l → put_in m x l ≡ Ok w → IsOrderly w
put_step (move.Key key) x (layer.Dictionary pairs) w k h o a e =
    let same : value.Dictionary (with_entry key x pairs) ≡ w = cc in
    subst IsOrderly same (with_part_step (move.Key key) (layer.Dictionary pairs) x k o a h)
put_step m x l w k h o a e =
    let found = try_ok (part_in m l) (λ old. Ok (with_part_in m l x)) w e in
    let same = ok_same (with_part_in m l x) w found.2 in
    subst IsOrderly same (with_part_step m l x k o a h)

pub put_orderly : (m : Move) (x : Value) → IsOrderlyMove m → IsOrderly x → (v w : Value) → IsOrderly v → put m x v ≡ Ok w → IsOrderly w
put_orderly m x k h v w o e = put_step m x (out-Value v) w k h (keys_orderly v o) (parts_orderly v o) e

pub stored_orderly : (ms : List Move) (x : Value) → AreOrderlyMoves ms → IsOrderly x → (v w : Value) → IsOrderly v → stored ms x v ≡ Ok w → IsOrderly w
stored_orderly [] x a h v w o e = let same : x ≡ w = cc in subst IsOrderly same h
stored_orderly (m ∷ []) x a h v w o e = put_orderly m x a.0 h v w o e
stored_orderly (m ∷ n ∷ ms) x a h v w o e =
    let found = try_ok (part m v) (λ y. then_try (stored (n ∷ ms) x y) (λ z. Ok (with_part m v z))) w e in
    let made = try_ok (stored (n ∷ ms) x found.0) (λ z. Ok (with_part m v z)) w found.2 in
    let same = ok_same (with_part m v made.0) w made.2 in
    let new = stored_orderly (n ∷ ms) x a.1 h found.0 made.0 (part_orderly m v found.0 o found.1) made.1 in
    subst IsOrderly same (with_part_orderly m v made.0 a.0 o new)

-- ---- what is left

pub leaves_orderly : (r : Result (Unit {0}) Trouble) (new old : Value) (wanted : Result Value Fault) → Leaves r new old wanted → IsOrderly old → ((w : Value) → wanted ≡ Ok w → IsOrderly w) → IsOrderly new
leaves_orderly (Ok done) new old wanted h o keeps = keeps new h
leaves_orderly (Err (trouble.Fault e)) new old wanted h o keeps = subst IsOrderly (sym h.1) o
leaves_orderly (Err trouble.Memory) new old wanted h o keeps = subst IsOrderly (sym h) o
