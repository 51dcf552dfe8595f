-- What changes leave, with what stands in each place told by an equation.
use Rattle.std.proofs.Common.{◌≡◌, ◌∷◌, ◌++◌}
use Rattle.std.specs.Prelude.{if◌then◌else◌}
use Rattle.value_steps.proofs.Common.{ℕ, List, [], Option, Some, None, Ok, Err, refl, sym, ap, ◌∙◌, subst, ℤ, Result, slice_get, slice_set, remove, is_some, Value, Pair, out-Pair, KeysAscend, Fault, Move, natural, altered, entry, put, stored, with_entry, without_entry, Trouble, Leaves, entry_altered, item_altered, place_altered, with_item, with_place}
use Rattle.epl_values.specs.declared.value.Value.TheVariants as value
use Rattle.action_host.specs.declared.host.Fault.TheVariants as fault
use Rattle.body_meaning.specs.declared.run.Move.TheVariants as move
use Rattle.value_steps.specs.Changed.{without_key}
use Rattle.value_steps.specs.Entries.{place_in}
use Rattle.value_steps.proofs.Ascending.{ascend_set_twice, at_found, at_missing, set_twice, with_replaced, without_placed}
use Rattle.value_steps.proofs.Leaving.{entry_leaves, item_leaves, leaves_dictionary, leaves_event, leaves_sequence, put_dictionary, put_event, put_sequence, stored_is}

pub item_left : (r : Result (Unit {0}) Trouble) (old mid new : List Value) (n : ℕ) (x hole y : Value) (ms : List Move) (f : Value → Result Value Fault) → slice_get old n ≡ Some x → mid ≡ slice_set old n hole → new ≡ slice_set mid n y → Leaves r y x (altered ms f x) → Leaves r new old (item_altered old n ms f)
item_left r old mid new n x hole y ms f g m e h = subst (λ xs. Leaves r xs old (item_altered old n ms f)) (sym (e ∙ ap (λ xs. slice_set xs n y) m)) (item_leaves r old n x hole y ms f g h)

pub entry_left : (r : Result (Unit {0}) Trouble) (key : Value) (old mid new : List Pair) (n : ℕ) (p : Pair) (hole y : Value) (ms : List Move) (f : Value → Result Value Fault) → KeysAscend old → Ok n ≡ place_in key old → slice_get old n ≡ Some p → mid ≡ slice_set old n (entry (out-Pair p).key hole) → new ≡ slice_set mid n (entry (out-Pair p).key y) → Leaves r y (out-Pair p).value (altered ms f (out-Pair p).value) → Leaves r new old (entry_altered old key ms f)
entry_left r key old mid new n p hole y ms f a at g m e h = subst (λ xs. Leaves r xs old (entry_altered old key ms f)) (sym (e ∙ ap (λ xs. slice_set xs n (entry (out-Pair p).key y)) m)) (entry_leaves r key old n p hole y ms f a at g h)

pub order_back : (old mid : List Pair) (n : ℕ) (p : Pair) (hole y : Value) → slice_get old n ≡ Some p → mid ≡ slice_set old n (entry (out-Pair p).key hole) → KeysAscend old → KeysAscend (slice_set mid n (entry (out-Pair p).key y))
order_back old mid n p hole y g m a = subst (λ xs. KeysAscend (slice_set xs n (entry (out-Pair p).key y))) (sym m) (ascend_set_twice old n p hole y g a)

pub put_back : (key : Value) (old mid new : List Pair) (n : ℕ) (p : Pair) (hole y : Value) → Ok n ≡ place_in key old → slice_get old n ≡ Some p → mid ≡ slice_set old n (entry (out-Pair p).key hole) → new ≡ slice_set mid n (entry (out-Pair p).key y) → new ≡ with_entry key y old
put_back key old mid new n p hole y at g m e = e ∙ ap (λ xs. slice_set xs n (entry (out-Pair p).key y)) m ∙ set_twice old n (entry (out-Pair p).key hole) (entry (out-Pair p).key y) ∙ with_replaced key y old n p at g

pub event_left : (r : Result (Unit {0}) Trouble) (v w : Value) (k : ℕ) (new old : List Value) (n : ℕ) (m : Move) (ms moves : List Move) (f : Value → Result Value Fault) → moves ≡ m ∷ ms → m ≡ move.Field n → v ≡ value.Event k old → w ≡ value.Event k new → Leaves r new old (item_altered old n ms f) → Leaves r w v (altered moves f v)
event_left r v w k new old n m ms moves f em en ev ew h = rw (em, en, ev, ew) (leaves_event r k new old n ms f h)

pub sequence_left : (r : Result (Unit {0}) Trouble) (v w : Value) (new old : List Value) (at : ℤ) (m : Move) (ms moves : List Move) (f : Value → Result Value Fault) → moves ≡ m ∷ ms → m ≡ move.Item at → v ≡ value.Sequence old → w ≡ value.Sequence new → Leaves r new old (place_altered old (natural at) ms f) → Leaves r w v (altered moves f v)
sequence_left r v w new old at m ms moves f em en ev ew h = rw (em, en, ev, ew) (leaves_sequence r new old at ms f h)

pub dictionary_left : (r : Result (Unit {0}) Trouble) (v w : Value) (new old : List Pair) (key : Value) (m : Move) (ms moves : List Move) (f : Value → Result Value Fault) → moves ≡ m ∷ ms → m ≡ move.Key key → v ≡ value.Dictionary old → w ≡ value.Dictionary new → Leaves r new old (entry_altered old key ms f) → Leaves r w v (altered moves f v)
dictionary_left r v w new old key m ms moves f em en ev ew h = rw (em, en, ev, ew) (leaves_dictionary r new old key ms f h)

pub put_event_left : (r : Result (Unit {0}) Trouble) (v w : Value) (k : ℕ) (new old : List Value) (n : ℕ) (m : Move) (x : Value) → m ≡ move.Field n → v ≡ value.Event k old → w ≡ value.Event k new → Leaves r new old (with_item old n x) → Leaves r w v (put m x v)
put_event_left r v w k new old n m x en ev ew h = rw (en, ev, ew) (put_event r k new old n x h)

pub put_sequence_left : (r : Result (Unit {0}) Trouble) (v w : Value) (new old : List Value) (at : ℤ) (m : Move) (x : Value) → m ≡ move.Item at → v ≡ value.Sequence old → w ≡ value.Sequence new → Leaves r new old (with_place old (natural at) x) → Leaves r w v (put m x v)
put_sequence_left r v w new old at m x en ev ew h = rw (en, ev, ew) (put_sequence r new old at x h)

pub put_dictionary_left : (v w : Value) (new old : List Pair) (key : Value) (m : Move) (x : Value) → m ≡ move.Key key → v ≡ value.Dictionary old → w ≡ value.Dictionary new → new ≡ with_entry key x old → put m x v ≡ Ok w
put_dictionary_left v w new old key m x en ev ew h = rw (en, ev, ew) (put_dictionary new old key x h)

pub stored_left : (r : Result (Unit {0}) Trouble) (v w : Value) (moves before : List Move) (last : Move) (x : Value) → moves ≡ before ++ last ∷ [] → Leaves r w v (altered before (put last x) v) → Leaves r w v (stored moves x v)
stored_left r v w moves before last x e h = rw e (subst (Leaves r w v) (sym (stored_is before last x v)) h)

pub without_found : (key : Value) (pairs new : List Pair) (n : ℕ) (p : Pair) → KeysAscend pairs → Ok n ≡ place_in key pairs → slice_get pairs n ≡ Some p → new ≡ remove pairs n → without_key pairs key ≡ Ok new
without_found key pairs new n p a e g r = ap (λ o. if is_some o then Ok (without_entry key pairs) else Err fault.MissingKey) (sym (at_found key pairs n p a e g)) ∙ ap Ok (without_placed key pairs n (sym e) ∙ sym r)

pub without_missing : (key : Value) (pairs : List Pair) (n : ℕ) → KeysAscend pairs → Err n ≡ place_in key pairs → without_key pairs key ≡ Err fault.MissingKey
without_missing key pairs n a e = ap (λ o. if is_some o then Ok (without_entry key pairs) else Err fault.MissingKey) (sym (at_missing key pairs n a e))

pub leaves_moves : (r : Result (Unit {0}) Trouble) (v w : Value) (moves ms : List Move) (m n : Move) (f : Value → Result Value Fault) → moves ≡ m ∷ ms → m ≡ n → Leaves r w v (altered (n ∷ ms) f v) → Leaves r w v (altered moves f v)
leaves_moves r v w moves ms m n f e k h = rw (e, k) h
