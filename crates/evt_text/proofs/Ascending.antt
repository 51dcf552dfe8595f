-- Entries whose keys ascend: where a key stands, and what stays in order.
use Rattle.std.proofs.Common.{◌≡◌, ◌<◌, ◌≤◌, ◌∷◌, Result, Ok, Err, OnOk}
use Rattle.evt_text.proofs.Common.{ℕ, zero, suc, Bool, true, false, List, [], length, map, Some, refl, sym, ap, ◌∙◌, arith, slice_get, slice_set, remove, Ordering, Less, Equal, Greater, AllByRecursion, Value, Pair, out-Pair, order_of, scalar_of, KeysAscend}
use Rattle.std.specs.Prelude.{slice_index_or, insert}
use Rattle.std.specs.List.Sorted.{IsPartitionedBy, IsPartitionPoint}
use Rattle.evt_text.specs.Entries.{behind, count_before, entry, is_before, is_equal, is_key, is_less, place_in, with_entry}
use Rattle.evt_text.proofs.Scalars.{less_less, turned}

-- ---- the place of a key by counting lesser ones

from_less : (o : Ordering) → is_less o ≡ true → o ≡ Less
from_less Less h = refl
from_less Equal h = cc
from_less Greater h = cc

from_equal : (o : Ordering) → is_equal o ≡ true → o ≡ Equal
from_equal Less h = cc
from_equal Equal h = refl
from_equal Greater h = cc

from_neither : (o : Ordering) → is_less o ≡ false → is_equal o ≡ false → o ≡ Greater
from_neither Less h k = cc
from_neither Equal h k = cc
from_neither Greater h k = refl

-- the count, by cases on the order of the first key
count_less : (key : Value) (p : Pair) (ps : List Pair) → is_before key p ≡ true → count_before key (p ∷ ps) ≡ suc (count_before key ps)
count_less key p ps h = rw h refl

count_none : (key : Value) (p : Pair) (ps : List Pair) → is_before key p ≡ false → count_before key (p ∷ ps) ≡ 0
count_none key p ps h = rw h refl

place_less : (key : Value) (p : Pair) (ps : List Pair) → order_of (out-Pair p).key key ≡ Less → place_in key (p ∷ ps) ≡ behind (place_in key ps)
place_less key p ps h = rw h refl

place_equal : (key : Value) (p : Pair) (ps : List Pair) → order_of (out-Pair p).key key ≡ Equal → place_in key (p ∷ ps) ≡ Ok 0
place_equal key p ps h = rw h refl

place_greater : (key : Value) (p : Pair) (ps : List Pair) → order_of (out-Pair p).key key ≡ Greater → place_in key (p ∷ ps) ≡ Err 0
place_greater key p ps h = rw h refl

-- past the end
end_step : (key : Value) (p : Pair) (ps : List Pair) (b : Bool) → is_before key p ≡ b → (length ps ≤ count_before key ps → place_in key ps ≡ Err (count_before key ps)) → length (p ∷ ps) ≤ count_before key (p ∷ ps) → place_in key (p ∷ ps) ≡ Err (count_before key (p ∷ ps))
end_step key p ps true e more h =
    let n = count_less key p ps e in
    place_less key p ps (from_less _ e) ∙ ap behind (more (omega arith)) ∙ ap Err (sym n)
end_step key p ps false e more h = let n = count_none key p ps e in absurd (omega arith)

pub counted_end : (key : Value) (pairs : List Pair) → length pairs ≤ count_before key pairs → place_in key pairs ≡ Err (count_before key pairs)
counted_end key [] h = refl
counted_end key (p ∷ ps) h = end_step key p ps (is_before key p) refl (counted_end key ps) h

-- at an entry with the key
ok_step : (key : Value) (p : Pair) (ps : List Pair) (d : Pair) (b : Bool) → is_before key p ≡ b → (count_before key ps < length ps → is_key key (slice_index_or ps (count_before key ps) d) ≡ true → place_in key ps ≡ Ok (count_before key ps)) → count_before key (p ∷ ps) < length (p ∷ ps) → is_key key (slice_index_or (p ∷ ps) (count_before key (p ∷ ps)) d) ≡ true → place_in key (p ∷ ps) ≡ Ok (count_before key (p ∷ ps))
ok_step key p ps d true e more h k =
    let n = count_less key p ps e in
    place_less key p ps (from_less _ e) ∙ ap behind (more (omega arith) (rw n at k)) ∙ ap Ok (sym n)
ok_step key p ps d false e more h k =
    let n = count_none key p ps e in
    place_equal key p ps (from_equal _ (rw n at k)) ∙ ap Ok (sym n)

pub counted_ok : (key : Value) (pairs : List Pair) (d : Pair) → count_before key pairs < length pairs → is_key key (slice_index_or pairs (count_before key pairs) d) ≡ true → place_in key pairs ≡ Ok (count_before key pairs)
counted_ok key [] d h k = absurd (omega arith)
counted_ok key (p ∷ ps) d h k = ok_step key p ps d (is_before key p) refl (counted_ok key ps d) h k

-- at an entry with a greater key
err_step : (key : Value) (p : Pair) (ps : List Pair) (d : Pair) (b : Bool) → is_before key p ≡ b → (count_before key ps < length ps → is_key key (slice_index_or ps (count_before key ps) d) ≡ false → place_in key ps ≡ Err (count_before key ps)) → count_before key (p ∷ ps) < length (p ∷ ps) → is_key key (slice_index_or (p ∷ ps) (count_before key (p ∷ ps)) d) ≡ false → place_in key (p ∷ ps) ≡ Err (count_before key (p ∷ ps))
err_step key p ps d true e more h k =
    let n = count_less key p ps e in
    place_less key p ps (from_less _ e) ∙ ap behind (more (omega arith) (rw n at k)) ∙ ap Err (sym n)
err_step key p ps d false e more h k =
    let n = count_none key p ps e in
    place_greater key p ps (from_neither _ e (rw n at k)) ∙ ap Err (sym n)

pub counted_err : (key : Value) (pairs : List Pair) (d : Pair) → count_before key pairs < length pairs → is_key key (slice_index_or pairs (count_before key pairs) d) ≡ false → place_in key pairs ≡ Err (count_before key pairs)
counted_err key [] d h k = absurd (omega arith)
counted_err key (p ∷ ps) d h k = err_step key p ps d (is_before key p) refl (counted_err key ps d) h k

-- what a search by halves gives
pub placed_ok : (key : Value) (pairs : List Pair) (n : ℕ) (x : Pair) → n ≡ count_before key pairs → n < length pairs → x ≡ slice_index_or pairs n x → is_key key x ≡ true → Ok n ≡ place_in key pairs
placed_ok key pairs n x e lt at is = ap Ok e ∙ sym (counted_ok key pairs x (omega arith) (ap (λ k. is_key key (slice_index_or pairs k x)) (sym e) ∙ ap (is_key key) (sym at) ∙ is))

pub placed_err : (key : Value) (pairs : List Pair) (n : ℕ) (x : Pair) → n ≡ count_before key pairs → n < length pairs → x ≡ slice_index_or pairs n x → is_key key x ≡ false → Err n ≡ place_in key pairs
placed_err key pairs n x e lt at is = ap Err e ∙ sym (counted_err key pairs x (omega arith) (ap (λ k. is_key key (slice_index_or pairs k x)) (sym e) ∙ ap (is_key key) (sym at) ∙ is))

pub placed_end : (key : Value) (pairs : List Pair) (n : ℕ) → n ≡ count_before key pairs → length pairs ≤ n → Err n ≡ place_in key pairs
placed_end key pairs n e le = ap Err e ∙ sym (counted_end key pairs (omega arith))

-- ---- lesser keys stand in front

-- one of all
all_at : (P : Value → Type 0) (pairs : List Pair) (j : ℕ) (d : Pair) → AllByRecursion P (map (λ p. p.key) pairs) → j < length pairs → P (out-Pair (slice_index_or pairs j d)).key
all_at P [] j d a h = absurd (omega arith)
all_at P (p ∷ ps) zero d a h = a.0
all_at P (p ∷ ps) (suc j) d a h = all_at P ps j d a.1 (omega arith)

pub lesser_first : (key : Value) (pairs : List Pair) → KeysAscend pairs → IsPartitionedBy (is_before key) pairs
lesser_first key [] a i j d ij jn e = absurd (omega arith)
lesser_first key (p ∷ ps) a zero zero d ij jn e = e
lesser_first key (p ∷ ps) a zero (suc j) d ij jn e = ap is_less (less_less (scalar_of (out-Pair p).key) (scalar_of (out-Pair (slice_index_or ps j d)).key) (scalar_of key) (all_at (λ k. order_of (out-Pair p).key k ≡ Less) ps j d a.0 (omega arith)) (from_less _ e))
lesser_first key (p ∷ ps) a (suc i) zero d ij jn e = absurd (omega arith)
lesser_first key (p ∷ ps) a (suc i) (suc j) d ij jn e = lesser_first key ps a.1 i j d (omega arith) (omega arith) e

pub counted : (key : Value) (pairs : List Pair) (n : ℕ) → n ≤ length pairs → IsPartitionPoint (λ y. is_before key y ≡ true) (λ y. is_before key y ≡ false) pairs n → n ≡ count_before key pairs
counted key [] n h at = omega arith
counted key (p ∷ ps) zero h at = sym (count_none key p ps (at.1 0 p (omega arith) (omega arith)))
counted key (p ∷ ps) (suc n) h at =
    let first : is_before key p ≡ true = at.0 0 p (omega arith) (omega arith) in
    let rest : n ≡ count_before key ps = counted key ps n (omega arith) ((λ k d low high. at.0 (suc k) d (omega arith) (omega arith)), (λ k d low high. at.1 (suc k) d (omega arith) (omega arith))) in
    ap suc rest ∙ sym (count_less key p ps first)

-- ---- what stands at a place

-- ---- an entry put in or taken out

-- the entries with a value at a place that was found
abbrev pub put_there : Value → Value → List Pair → Result ℕ ℕ → List Pair
put_there key v [] (Ok n) = entry key v ∷ []
put_there key v (p ∷ ps) (Ok zero) = entry (out-Pair p).key v ∷ ps
put_there key v (p ∷ ps) (Ok (suc n)) = p ∷ put_there key v ps (Ok n)
put_there key v pairs (Err n) = insert pairs n (entry key v)

put_behind : (key v : Value) (p : Pair) (ps : List Pair) (r : Result ℕ ℕ) → put_there key v (p ∷ ps) (behind r) ≡ p ∷ put_there key v ps r
put_behind key v p ps (Ok n) = refl
put_behind key v p ps (Err n) = refl

put_step : (key v : Value) (p : Pair) (ps : List Pair) (o : Ordering) → order_of (out-Pair p).key key ≡ o → with_entry key v ps ≡ put_there key v ps (place_in key ps) → with_entry key v (p ∷ ps) ≡ put_there key v (p ∷ ps) (place_in key (p ∷ ps))
put_step key v p ps Less e more = rw (place_less key p ps e) (rw e (ap (λ xs. p ∷ xs) more ∙ sym (put_behind key v p ps (place_in key ps))))
put_step key v p ps Equal e more = rw (place_equal key p ps e) (rw e refl)
put_step key v p ps Greater e more = rw (place_greater key p ps e) (rw e refl)

pub with_placed : (key v : Value) (pairs : List Pair) → with_entry key v pairs ≡ put_there key v pairs (place_in key pairs)
with_placed key v [] = refl
with_placed key v (p ∷ ps) = put_step key v p ps (order_of (out-Pair p).key key) refl (with_placed key v ps)

pub put_found : (key v : Value) (pairs : List Pair) (n : ℕ) (x : Pair) → slice_get pairs n ≡ Some x → put_there key v pairs (Ok n) ≡ slice_set pairs n (entry (out-Pair x).key v)
put_found key v [] n x e = cc
put_found key v (p ∷ ps) zero x e = let same : p ≡ x = cc in rw same refl
put_found key v (p ∷ ps) (suc n) x e = ap (λ xs. p ∷ xs) (put_found key v ps n x e)

-- ---- what stays in order

-- the same keys are in order with other values
pub keys_set : (pairs : List Pair) (n : ℕ) (x : Pair) (v : Value) → slice_get pairs n ≡ Some x → map (λ p. p.key) (slice_set pairs n (entry (out-Pair x).key v)) ≡ map (λ p. p.key) pairs
keys_set [] n x v e = refl
keys_set (p ∷ ps) zero x v e = let same : p ≡ x = cc in rw same refl
keys_set (p ∷ ps) (suc n) x v e = ap (λ ks. (out-Pair p).key ∷ ks) (keys_set ps n x v e)

pub ascend_set : (pairs : List Pair) (n : ℕ) (x : Pair) (v : Value) → slice_get pairs n ≡ Some x → KeysAscend pairs → KeysAscend (slice_set pairs n (entry (out-Pair x).key v))
ascend_set pairs n x v e a = rw (keys_set pairs n x v e) a

-- a key behind a lesser one is behind all that are lesser
all_less : (first second : Value) (keys : List Value) → order_of first second ≡ Less → AllByRecursion (λ k. order_of second k ≡ Less) keys → AllByRecursion (λ k. order_of first k ≡ Less) keys
all_less first second [] h a = tt
all_less first second (k ∷ ks) h a = (less_less (scalar_of first) (scalar_of second) (scalar_of k) h a.0, all_less first second ks h a.1)

first_step : (first key v : Value) (p : Pair) (ps : List Pair) (o : Ordering) → order_of (out-Pair p).key key ≡ o → order_of first key ≡ Less → AllByRecursion (λ k. order_of first k ≡ Less) (map (λ q. q.key) (p ∷ ps)) → AllByRecursion (λ k. order_of first k ≡ Less) (map (λ q. q.key) (with_entry key v ps)) → AllByRecursion (λ k. order_of first k ≡ Less) (map (λ q. q.key) (with_entry key v (p ∷ ps)))
first_step first key v p ps Less e h a more = rw e (a.0, more)
first_step first key v p ps Equal e h a more = rw e (a.0, a.1)
first_step first key v p ps Greater e h a more = rw e (h, a)

first_before : (first key v : Value) (pairs : List Pair) → order_of first key ≡ Less → AllByRecursion (λ k. order_of first k ≡ Less) (map (λ q. q.key) pairs) → AllByRecursion (λ k. order_of first k ≡ Less) (map (λ q. q.key) (with_entry key v pairs))
first_before first key v [] h a = (h, tt)
first_before first key v (p ∷ ps) h a = first_step first key v p ps (order_of (out-Pair p).key key) refl h a (first_before first key v ps h a.1)

with_step : (key v : Value) (p : Pair) (ps : List Pair) (o : Ordering) → order_of (out-Pair p).key key ≡ o → KeysAscend (p ∷ ps) → KeysAscend (with_entry key v ps) → KeysAscend (with_entry key v (p ∷ ps))
with_step key v p ps Less e a more = rw e (first_before (out-Pair p).key key v ps e a.0, more)
with_step key v p ps Equal e a more = rw e (a.0, a.1)
with_step key v p ps Greater e a more = let h : order_of key (out-Pair p).key ≡ Less = turned (scalar_of (out-Pair p).key) (scalar_of key) e in rw e ((h, all_less key (out-Pair p).key (map (λ q. q.key) ps) h a.0), a)

pub ascend_with : (key v : Value) (pairs : List Pair) → KeysAscend pairs → KeysAscend (with_entry key v pairs)
ascend_with key v [] a = (tt, tt)
ascend_with key v (p ∷ ps) a = with_step key v p ps (order_of (out-Pair p).key key) refl a (ascend_with key v ps a.1)

-- ---- what the calls give, in one step

pub with_inserted : (key v : Value) (pairs : List Pair) (n : ℕ) → Err n ≡ place_in key pairs → insert pairs n (entry key v) ≡ with_entry key v pairs
with_inserted key v pairs n e = inserts pairs n ∙ sym (with_placed key v pairs ∙ ap (put_there key v pairs) (sym e)) where
  inserts : (ps : List Pair) (n : ℕ) → insert ps n (entry key v) ≡ put_there key v ps (Err n)
  inserts [] n = refl
  inserts (p ∷ ps) n = refl

pub ascend_inserted : (key v : Value) (pairs : List Pair) (n : ℕ) → KeysAscend pairs → Err n ≡ place_in key pairs → KeysAscend (insert pairs n (entry key v))
ascend_inserted key v pairs n a e = rw (with_inserted key v pairs n e) (ascend_with key v pairs a)

pub with_replaced : (key v : Value) (pairs : List Pair) (n : ℕ) (p : Pair) → Ok n ≡ place_in key pairs → slice_get pairs n ≡ Some p → slice_set pairs n (entry (out-Pair p).key v) ≡ with_entry key v pairs
with_replaced key v pairs n p e g = sym (with_placed key v pairs ∙ ap (put_there key v pairs) (sym e) ∙ put_found key v pairs n p g)

-- taken out and put in again at one place
set_again : (pairs : List Pair) (n : ℕ) (x y : Pair) → slice_get pairs n ≡ Some x → insert (remove pairs n) n y ≡ slice_set pairs n y
set_again [] n x y e = cc
set_again (p ∷ ps) zero x y e = refl
set_again (p ∷ ps) (suc n) x y e = ap (λ xs. p ∷ xs) (set_again ps n x y e)

pub again_replaced : (key v : Value) (pairs rest : List Pair) (n : ℕ) (p : Pair) → Ok n ≡ place_in key pairs → slice_get pairs n ≡ Some p → rest ≡ remove pairs n
    → insert rest n (entry (out-Pair p).key v) ≡ with_entry key v pairs
again_replaced key v pairs rest n p e g r = ap (λ xs. insert xs n (entry (out-Pair p).key v)) r ∙ set_again pairs n p (entry (out-Pair p).key v) g ∙ with_replaced key v pairs n p e g

pub ascend_again : (key v : Value) (pairs rest : List Pair) (n : ℕ) (p : Pair) → KeysAscend pairs → Ok n ≡ place_in key pairs → slice_get pairs n ≡ Some p → rest ≡ remove pairs n
    → KeysAscend (insert rest n (entry (out-Pair p).key v))
ascend_again key v pairs rest n p a e g r = rw (again_replaced key v pairs rest n p e g r) (ascend_with key v pairs a)

-- what is there after a change is in order, if what was to be there is
pub ordered_on_ok : {E : Type 0} (r : Result (Unit {0}) E) (new wanted : List Pair) → OnOk r (new ≡ wanted) → KeysAscend wanted → OnOk r (KeysAscend new)
ordered_on_ok (Ok x) new wanted e a = rw e a
ordered_on_ok (Err x) new wanted e a = tt
