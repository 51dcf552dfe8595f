-- The loops over the items of a list and the entries of a dictionary.
use Rattle.evt_text.proofs.Common.{ℕ, suc, List, [], Bool, true, false, Option, Some, None, refl, sym, ap, ◌∙◌, arith, Pair, KeysAscend, out-Pair, with_front, behind_sign}
use Rattle.std.proofs.Common.{◌≡◌, ◌+◌, ◌-◌, ◌<◌, ◌∷◌, ◌++◌, Result, Err, append-nil}
use Rattle.std.specs.Result.{IsErrAnd}
use Rattle.std.proofs.lemmas.Result.{err_from_is_err_and}
use Rattle.evt_text.specs.declared.fault.TextFault.{TextFault}
use Rattle.evt_text.specs.declared.fault.TextFault.TheVariants.{NoValue, Memory}
use Rattle.evt_text.specs.Entries.{with_entry}
use Rattle.evt_text.specs.Reading.{◌>>=◌, Reads, Passes, behind_opening, item_at, items_from, list_at, put_in, unless_closed}
use Rattle.evt_text.proofs.Cases.{with_front-twice}

-- what stands on a part that failed fails
pub passes_err : {X : Type 0} (f : TextFault) (rest : List ℕ) (part : Option (List ℕ)) (r : Result X TextFault) (whole : Option (X × List ℕ)) → (part ≡ None → whole ≡ None)
    → Passes {X = Unit {0}} (Err f) rest part → IsErrAnd r (λ e. e ≡ f) → Reads r rest whole
passes_err NoValue rest part r whole go h i = let p = err_from_is_err_and r i in rw (p.1, p.2) (go h)
passes_err Memory rest part r whole go h i = let p = err_from_is_err_and r i in rw (p.1, p.2) tt

pub reads_err : {X Y : Type 0} (f : TextFault) (rest : List ℕ) (part : Option (Y × List ℕ)) (r : Result X TextFault) (whole : Option (X × List ℕ)) → (part ≡ None → whole ≡ None)
    → Reads {X = Y} (Err f) rest part → IsErrAnd r (λ e. e ≡ f) → Reads r rest whole
reads_err NoValue rest part r whole go h i = let p = err_from_is_err_and r i in rw (p.1, p.2) (go h)
reads_err Memory rest part r whole go h i = let p = err_from_is_err_and r i in rw (p.1, p.2) tt

module _ {X : Type 0} (one : List ℕ → Option (X × List ℕ)) (right : ℕ) where
  pub list-none : (left n : ℕ) (text : List ℕ) → behind_opening left text ≡ None → list_at one left right n text ≡ None
  unfolding list_at
  list-none left n text e = rw e refl

  pub list-begun : (left n : ℕ) (text rest : List ℕ) → behind_opening left text ≡ Some rest → items_from one right (n - 0) true rest ≡ list_at one left right n text
  unfolding list_at
  list-begun left n text rest e = let z : n - 0 ≡ n = omega arith in rw (e, z) refl

  -- one turn
  step : (limit turn : ℕ) (first : Bool) (text : List ℕ) → turn < limit
      → items_from one right (limit - turn) first text ≡ unless_closed (behind_sign right text) (item_at one first text >>= λ x. with_front (x.0 ∷ []) (items_from one right (limit - (turn + 1)) false x.1))
  step limit turn first text lt = let e : limit - turn ≡ suc (limit - (turn + 1)) = omega arith in rw e refl

  pub items-closed : (limit turn : ℕ) (first : Bool) (text rest : List ℕ) → turn < limit → behind_sign right text ≡ Some rest → items_from one right (limit - turn) first text ≡ Some ([], rest)
  items-closed limit turn first text rest lt e = step limit turn first text lt ∙ rw e refl

  pub items-stopped : (limit turn : ℕ) (first : Bool) (text seen : List ℕ) → turn < limit → (behind_sign right text ≡ None) × (seen ≡ text) → item_at one first seen ≡ None → items_from one right (limit - turn) first text ≡ None
  items-stopped limit turn first text seen lt e n = step limit turn first text lt ∙ rw (e.0, ← e.1, n) refl

  pub items-more : (limit turn : ℕ) (first : Bool) (text seen : List ℕ) (x : X) (rest : List ℕ) → turn < limit → (behind_sign right text ≡ None) × (seen ≡ text) → item_at one first seen ≡ Some (x, rest)
      → items_from one right (limit - turn) first text ≡ with_front (x ∷ []) (items_from one right (limit - (turn + 1)) false rest)
  items-more limit turn first text seen x rest lt e n = step limit turn first text lt ∙ rw (e.0, ← e.1, n) refl

  pub items-end : (limit turn : ℕ) (first : Bool) (text : List ℕ) → limit - turn ≡ 0 → items_from one right (limit - turn) first text ≡ None
  items-end limit turn first text e = rw e refl

  -- the items so far, and those that follow
  pub more-made : (limit turn : ℕ) (first : Bool) (text seen : List ℕ) (x : X) (rest : List ℕ) (done after : List X) (whole : Option (List X × List ℕ)) → turn < limit → (behind_sign right text ≡ None) × (seen ≡ text)
      → item_at one first seen ≡ Some (x, rest) → after ≡ done ++ x ∷ [] → with_front done (items_from one right (limit - turn) first text) ≡ whole
      → with_front after (items_from one right (limit - (turn + 1)) false rest) ≡ whole
  more-made limit turn first text seen x rest done after whole lt e n a h =
      rw a (sym (with_front-twice done (x ∷ []) (items_from one right (limit - (turn + 1)) false rest)) ∙ ap (with_front done) (sym (items-more limit turn first text seen x rest lt e n)) ∙ h)

  pub all-made : (limit turn : ℕ) (first : Bool) (text rest : List ℕ) (done : List X) (whole : Option (List X × List ℕ)) → turn < limit → behind_sign right text ≡ Some rest
      → with_front done (items_from one right (limit - turn) first text) ≡ whole → whole ≡ Some (done, rest)
  all-made limit turn first text rest done whole lt e h = sym h ∙ ap (with_front done) (items-closed limit turn first text rest lt e) ∙ rw append-nil refl

pub none-made : {X : Type 0} (done : List X) (read whole : Option (List X × List ℕ)) → with_front done read ≡ whole → read ≡ None → whole ≡ None
none-made done read whole h e = sym h ∙ ap (with_front done) e

-- ---- entries

put-first : (pairs : List Pair) (one : Pair) (read : Option (List Pair × List ℕ)) → put_in pairs (with_front (one ∷ []) read) ≡ put_in (with_entry (out-Pair one).key (out-Pair one).value pairs) read
put-first pairs one None = refl
put-first pairs one (Some x) = refl

pub none-put : (pairs : List Pair) (read whole : Option (List Pair × List ℕ)) → put_in pairs read ≡ whole → read ≡ None → whole ≡ None
none-put pairs read whole h e = sym h ∙ ap (put_in pairs) e

module _ (one : List ℕ → Option (Pair × List ℕ)) (right : ℕ) where
  pub more-put : (limit turn : ℕ) (first : Bool) (text seen : List ℕ) (x : Pair) (rest : List ℕ) (done after : List Pair) (whole : Option (List Pair × List ℕ)) → turn < limit → (behind_sign right text ≡ None) × (seen ≡ text)
      → item_at one first seen ≡ Some (x, rest) → after ≡ with_entry (out-Pair x).key (out-Pair x).value done → put_in done (items_from one right (limit - turn) first text) ≡ whole
      → put_in after (items_from one right (limit - (turn + 1)) false rest) ≡ whole
  more-put limit turn first text seen x rest done after whole lt e n a h =
      rw a (sym (put-first done x (items_from one right (limit - (turn + 1)) false rest)) ∙ ap (put_in done) (sym (items-more one right limit turn first text seen x rest lt e n)) ∙ h)

  pub all-put : (limit turn : ℕ) (first : Bool) (text rest : List ℕ) (done : List Pair) (whole : Option (List Pair × List ℕ)) → turn < limit → behind_sign right text ≡ Some rest
      → put_in done (items_from one right (limit - turn) first text) ≡ whole → whole ≡ Some (done, rest)
  all-put limit turn first text rest done whole lt e h = sym h ∙ ap (put_in done) (items-closed one right limit turn first text rest lt e)

pub none-ascend : (pairs : List Pair) → pairs ≡ [] → KeysAscend pairs
none-ascend pairs e = rw e tt
