-- What a change of a part leaves of the whole.
use Rattle.std.proofs.Common.{◌≡◌, ◌<◌, ◌∷◌, ◌++◌}
use Rattle.value_steps.proofs.Common.{ℕ, zero, suc, List, [], map, Option, Some, None, Ok, Err, refl, sym, ap, ◌∙◌, subst, arith, ℤ, Result, slice_get, slice_set, option_and_then, Value, Value-F, out-Value, roll-Value, Pair, out-Pair, roll-Pair, roll-out-Pair, KeysAscend, Fault, Move, natural, altered, at_key, entry, entry_value, or_fault, part, part_in, put, put_in, set_at, stored, then_try, with_entry, with_part, with_part_in, Trouble, Leaves, entry_altered, item_altered, place_altered, with_item, with_place}
use Rattle.epl_values.specs.declared.value.Value.TheOpen as layer
use Rattle.epl_values.specs.declared.value.Value.TheVariants as value
use Rattle.action_host.specs.declared.host.Fault.TheVariants as fault
use Rattle.body_meaning.specs.declared.run.Move.TheVariants as move
use Rattle.value_steps.specs.declared.trouble.Trouble.TheVariants as trouble
use Rattle.value_steps.specs.Entries.{place_in}
use Rattle.value_steps.proofs.Ascending.{at_found, at_missing, set_twice, with_replaced}

-- ---- a part's change seen in the whole

abbrev pub mapped : {A B : Type 0} → (A → B) → Result A Fault → Result B Fault
mapped g (Ok x) = Ok (g x)
mapped g (Err e) = Err e

pub leaves_mapped : {A B : Type 0} (g : A → B) (r : Result (Unit {0}) Trouble) (new old : A) (w : Result A Fault) → Leaves r new old w → Leaves r (g new) (g old) (mapped g w)
leaves_mapped g (Ok done) new old w h = ap (mapped g) h
leaves_mapped g (Err (trouble.Fault e)) new old w h = (ap (mapped g) h.0, ap g h.1)
leaves_mapped g (Err trouble.Memory) new old w h = ap g h

pub leaves_same : {A : Type 0} (r : Result (Unit {0}) Trouble) (new old : A) (v w : Result A Fault) → v ≡ w → Leaves r new old w → Leaves r new old v
leaves_same r new old v w e h = subst (Leaves r new old) (sym e) h

last_mapped : {B C D : Type 0} (g : C → D) (h : B → C) (p : Result B Fault) → mapped g (then_try p (λ y. Ok (h y))) ≡ then_try p (λ y. Ok (g (h y)))
last_mapped g h (Ok y) = refl
last_mapped g h (Err e) = refl

then_mapped : {A B C D : Type 0} (g : C → D) (h : B → C) (F : A → Result B Fault) (p : Result A Fault) → mapped g (then_try p (λ x. then_try (F x) (λ y. Ok (h y)))) ≡ then_try p (λ x. then_try (F x) (λ y. Ok (g (h y))))
then_mapped g h F (Ok x) = last_mapped g h (F x)
then_mapped g h F (Err e) = refl

abbrev layer_altered : Move → List Move → (Value → Result Value Fault) → Value-F Value Pair → Result Value Fault
layer_altered m ms f l = then_try (part_in m l) (λ x. then_try (altered ms f x) (λ y. Ok (with_part_in m l y)))

pub leaves_event : (r : Result (Unit {0}) Trouble) (e : ℕ) (new old : List Value) (n : ℕ) (ms : List Move) (f : Value → Result Value Fault) → Leaves r new old (item_altered old n ms f) → Leaves r (value.Event e new) (value.Event e old) (altered (move.Field n ∷ ms) f (value.Event e old))
leaves_event r e new old n ms f h = leaves_same r (value.Event e new) (value.Event e old) _ _ (ap (layer_altered (move.Field n) ms f) (value.outs-Event e old) ∙ sym (then_mapped (value.Event e) (slice_set old n) (altered ms f) (or_fault fault.IndexOutOfRange (slice_get old n)))) (leaves_mapped (value.Event e) r new old _ h)

sequence_place : (old : List Value) (n : Option ℕ) (ms : List Move) (f : Value → Result Value Fault) → then_try (or_fault fault.IndexOutOfRange (option_and_then (slice_get old) n)) (λ x. then_try (altered ms f x) (λ y. Ok (value.Sequence (set_at old n y)))) ≡ mapped value.Sequence (place_altered old n ms f)
sequence_place old None ms f = refl
sequence_place old (Some n) ms f = sym (then_mapped value.Sequence (slice_set old n) (altered ms f) (or_fault fault.IndexOutOfRange (slice_get old n)))

pub leaves_sequence : (r : Result (Unit {0}) Trouble) (new old : List Value) (at : ℤ) (ms : List Move) (f : Value → Result Value Fault) → Leaves r new old (place_altered old (natural at) ms f) → Leaves r (value.Sequence new) (value.Sequence old) (altered (move.Item at ∷ ms) f (value.Sequence old))
leaves_sequence r new old at ms f h = leaves_same r (value.Sequence new) (value.Sequence old) _ _ (ap (layer_altered (move.Item at) ms f) (value.outs-Sequence old) ∙ sequence_place old (natural at) ms f) (leaves_mapped value.Sequence r new old _ h)

pub leaves_dictionary : (r : Result (Unit {0}) Trouble) (new old : List Pair) (key : Value) (ms : List Move) (f : Value → Result Value Fault) → Leaves r new old (entry_altered old key ms f) → Leaves r (value.Dictionary new) (value.Dictionary old) (altered (move.Key key ∷ ms) f (value.Dictionary old))
leaves_dictionary r new old key ms f h = leaves_same r (value.Dictionary new) (value.Dictionary old) _ _ (ap (layer_altered (move.Key key) ms f) (value.outs-Dictionary old) ∙ sym (then_mapped value.Dictionary (λ y. with_entry key y old) (altered ms f) (or_fault fault.MissingKey (at_key key old)))) (leaves_mapped value.Dictionary r new old _ h)

-- ---- a value put at a part

pub put_event : (r : Result (Unit {0}) Trouble) (e : ℕ) (new old : List Value) (n : ℕ) (x : Value) → Leaves r new old (with_item old n x) → Leaves r (value.Event e new) (value.Event e old) (put (move.Field n) x (value.Event e old))
put_event r e new old n x h = leaves_same r (value.Event e new) (value.Event e old) _ _ (ap (put_in (move.Field n) x) (value.outs-Event e old) ∙ sym (last_mapped (value.Event e) (λ o. slice_set old n x) (or_fault fault.IndexOutOfRange (slice_get old n)))) (leaves_mapped (value.Event e) r new old _ h)

put_place : (old : List Value) (n : Option ℕ) (x : Value) → then_try (or_fault fault.IndexOutOfRange (option_and_then (slice_get old) n)) (λ o. Ok (value.Sequence (set_at old n x))) ≡ mapped value.Sequence (with_place old n x)
put_place old None x = refl
put_place old (Some n) x = sym (last_mapped value.Sequence (λ o. slice_set old n x) (or_fault fault.IndexOutOfRange (slice_get old n)))

pub put_sequence : (r : Result (Unit {0}) Trouble) (new old : List Value) (at : ℤ) (x : Value) → Leaves r new old (with_place old (natural at) x) → Leaves r (value.Sequence new) (value.Sequence old) (put (move.Item at) x (value.Sequence old))
put_sequence r new old at x h = leaves_same r (value.Sequence new) (value.Sequence old) _ _ (ap (put_in (move.Item at) x) (value.outs-Sequence old) ∙ put_place old (natural at) x) (leaves_mapped value.Sequence r new old _ h)

pub put_dictionary : (new old : List Pair) (key x : Value) → new ≡ with_entry key x old → put (move.Key key) x (value.Dictionary old) ≡ Ok (value.Dictionary new)
put_dictionary new old key x h = ap (put_in (move.Key key) x) (value.outs-Dictionary old) ∙ ap (λ ps. Ok (value.Dictionary ps)) (sym h)

-- ---- a part taken out, changed, and put back

twice : {A : Type 0} (xs : List A) (n : ℕ) (x y : A) → slice_set (slice_set xs n x) n y ≡ slice_set xs n y
twice [] n x y = refl
twice (z ∷ zs) zero x y = refl
twice (z ∷ zs) (suc n) x y = ap (λ ys. z ∷ ys) (twice zs n x y)

same : {A : Type 0} (xs : List A) (n : ℕ) (x : A) → slice_get xs n ≡ Some x → slice_set xs n x ≡ xs
same [] n x e = refl
same (z ∷ zs) zero x e = let first : z ≡ x = cc in ap (λ y. y ∷ zs) (sym first)
same (z ∷ zs) (suc n) x e = ap (λ ys. z ∷ ys) (same zs n x e)

item_given : (old : List Value) (n : ℕ) (x : Value) (ms : List Move) (f : Value → Result Value Fault) → slice_get old n ≡ Some x → item_altered old n ms f ≡ then_try (altered ms f x) (λ y. Ok (slice_set old n y))
item_given old n x ms f e = ap (λ o. then_try (or_fault fault.IndexOutOfRange o) (λ w. then_try (altered ms f w) (λ y. Ok (slice_set old n y)))) e

pub item_leaves : (r : Result (Unit {0}) Trouble) (old : List Value) (n : ℕ) (x hole new : Value) (ms : List Move) (f : Value → Result Value Fault) → slice_get old n ≡ Some x → Leaves r new x (altered ms f x) → Leaves r (slice_set (slice_set old n hole) n new) old (item_altered old n ms f)
item_leaves (Ok done) old n x hole new ms f e h = item_given old n x ms f e ∙ ap (λ q. then_try q (λ y. Ok (slice_set old n y))) h ∙ ap Ok (sym (twice old n hole new))
item_leaves (Err (trouble.Fault why)) old n x hole new ms f e h = (item_given old n x ms f e ∙ ap (λ q. then_try q (λ y. Ok (slice_set old n y))) h.0, twice old n hole new ∙ ap (slice_set old n) h.1 ∙ same old n x e)
item_leaves (Err trouble.Memory) old n x hole new ms f e h = twice old n hole new ∙ ap (slice_set old n) h ∙ same old n x e

entry_given : (key : Value) (old : List Pair) (n : ℕ) (p : Pair) (ms : List Move) (f : Value → Result Value Fault) → KeysAscend old → Ok n ≡ place_in key old → slice_get old n ≡ Some p → entry_altered old key ms f ≡ then_try (altered ms f (entry_value p)) (λ y. Ok (with_entry key y old))
entry_given key old n p ms f a e g = ap (λ o. then_try (or_fault fault.MissingKey o) (λ w. then_try (altered ms f w) (λ y. Ok (with_entry key y old)))) (sym (at_found key old n p a e g))

pub entry_leaves : (r : Result (Unit {0}) Trouble) (key : Value) (old : List Pair) (n : ℕ) (p : Pair) (hole new : Value) (ms : List Move) (f : Value → Result Value Fault) → KeysAscend old → Ok n ≡ place_in key old → slice_get old n ≡ Some p → Leaves r new (out-Pair p).value (altered ms f (out-Pair p).value) → Leaves r (slice_set (slice_set old n (entry (out-Pair p).key hole)) n (entry (out-Pair p).key new)) old (entry_altered old key ms f)
entry_leaves (Ok done) key old n p hole new ms f a e g h = entry_given key old n p ms f a e g ∙ ap (λ q. then_try q (λ y. Ok (with_entry key y old))) h ∙ ap Ok (sym (twice old n _ _ ∙ with_replaced key new old n p e g))
entry_leaves (Err (trouble.Fault why)) key old n p hole new ms f a e g h = (entry_given key old n p ms f a e g ∙ ap (λ q. then_try q (λ y. Ok (with_entry key y old))) h.0, twice old n _ _ ∙ ap (λ v. slice_set old n (entry (out-Pair p).key v)) h.1 ∙ ap (slice_set old n) (roll-out-Pair p) ∙ same old n p g)
entry_leaves (Err trouble.Memory) key old n p hole new ms f a e g h = twice old n _ _ ∙ ap (λ v. slice_set old n (entry (out-Pair p).key v)) h ∙ ap (slice_set old n) (roll-out-Pair p) ∙ same old n p g

pub entry_missing : (key : Value) (old : List Pair) (n : ℕ) (ms : List Move) (f : Value → Result Value Fault) → KeysAscend old → Err n ≡ place_in key old → entry_altered old key ms f ≡ Err fault.MissingKey
entry_missing key old n ms f a e = ap (λ o. then_try (or_fault fault.MissingKey o) (λ w. then_try (altered ms f w) (λ y. Ok (with_entry key y old)))) (sym (at_missing key old n a e))

-- ---- storing is putting at the part before the last

pub stored_is : (ms : List Move) (m : Move) (x v : Value) → stored (ms ++ m ∷ []) x v ≡ altered ms (put m x) v
stored_is [] m x v = refl
stored_is (k ∷ []) m x v = refl
stored_is (k ∷ j ∷ ms) m x v = λ i. then_try (part k v) (λ y. then_try (stored_is (j ∷ ms) m x y i) (λ z. Ok (with_part k v z)))
