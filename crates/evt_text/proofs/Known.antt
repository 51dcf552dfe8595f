-- What is known of each part that is spelled, and of the dictionary that entries make.
use Rattle.std.proofs.Common.{◌≡◌, ◌∷◌}
use Rattle.evt_text.proofs.Common.{ℕ, List, [], Bool, true, false, refl, AllByRecursion, Ordering, Less, Equal, Greater, Value, Pair, out-Pair, KeysAscend, order_of}
use Rattle.evt_text.specs.Entries.{entered, with_entries, with_entry}
use Rattle.evt_text.specs.Spelling.{SpellsItems, SpellsList}
use Rattle.evt_text.proofs.Ascending.{ascend_with}

module _ {X : Type 0} (Q : X → List ℕ → Type 0) (R : X → Type 0) (known : (x : X) (text : List ℕ) → Q x text → R x) where
  items_each : (first : Bool) (xs : List X) (text : List ℕ) → SpellsItems Q first xs text → AllByRecursion R xs
  items_each first [] text h = tt
  items_each first (x ∷ xs) text (lead, spelling, blanks, rest, e, l, s, b, h) = (known x spelling s, items_each false xs rest h)

  -- what is known of each thing that is spelled is known of each item of a list that is
  pub list_each : (left right : ℕ) (xs : List X) (text : List ℕ) → SpellsList Q left right xs text → AllByRecursion R xs
  list_each left right xs text h = items_each true xs h.1 h.4

module _ (K V : Value → Type 0) where
  -- a key and a value of which this is known
  abbrev pub IsKnown : Pair → Type 0
  IsKnown pair = K (out-Pair pair).key × V (out-Pair pair).value

  put_step : (key v : Value) (p : Pair) (ps : List Pair) (o : Ordering) → order_of (out-Pair p).key key ≡ o → K key → V v → AllByRecursion IsKnown (p ∷ ps) → AllByRecursion IsKnown (with_entry key v ps)
      → AllByRecursion IsKnown (with_entry key v (p ∷ ps))
  put_step key v p ps Less e k w a more = rw e (a.0, more)
  put_step key v p ps Equal e k w a more = rw e ((a.0.0, w), a.1)
  put_step key v p ps Greater e k w a more = rw e ((k, w), a)

  put_each : (key v : Value) (pairs : List Pair) → K key → V v → AllByRecursion IsKnown pairs → AllByRecursion IsKnown (with_entry key v pairs)
  put_each key v [] k w a = ((k, w), tt)
  put_each key v (p ∷ ps) k w a = put_step key v p ps (order_of (out-Pair p).key key) refl k w a (put_each key v ps k w a.1)

  all_each : (pairs more : List Pair) → AllByRecursion IsKnown pairs → AllByRecursion IsKnown more → AllByRecursion IsKnown (with_entries pairs more)
  all_each pairs [] a h = a
  all_each pairs (p ∷ ps) a h = all_each (with_entry (out-Pair p).key (out-Pair p).value pairs) ps (put_each (out-Pair p).key (out-Pair p).value pairs h.0.0 h.0.1 a) h.1

  -- what is known of all entries is known of those of the dictionary that they make
  pub entered_each : (entries : List Pair) → AllByRecursion IsKnown entries → AllByRecursion IsKnown (entered entries)
  entered_each entries h = all_each [] entries tt h

all_ascend : (pairs more : List Pair) → KeysAscend pairs → KeysAscend (with_entries pairs more)
all_ascend pairs [] a = a
all_ascend pairs (p ∷ ps) a = all_ascend (with_entry (out-Pair p).key (out-Pair p).value pairs) ps (ascend_with (out-Pair p).key (out-Pair p).value pairs a)

-- the dictionary that entries make has ascending keys
pub entered_ascend : (entries : List Pair) → KeysAscend (entered entries)
entered_ascend entries = all_ascend [] entries tt
