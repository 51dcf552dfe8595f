-- The parts of a record, in the theory and in its own words.
use Rattle.std.proofs.Common.{◌≡◌, ◌+◌, ◌≤◌, ◌<◌, ◌∷◌, ◌++◌}
use Rattle.std.proofs.lemmas.Option.{slice_get-map}
use Rattle.naive_meaning.proofs.Common.{ℕ, zero, suc, max, List, [], false, Some, refl, sym, ◌∙◌, ap, arith, map, length, get_or, slice_get, Entry, Handled, ReaderStep, Cargo, Item, Program, Settings, Context, ContextRecord, Record, number_after, numbers_along, lifted, slot_after, step_entry, handle, slots_of, log_of, part_at, numbers, stamp_of}
use Rattle.actor_theory.specs.declared.entry.ReaderStep.TheVariants as step
use Rattle.actor_theory.specs.Joined.{IsUnspentSlot}
use Rattle.actor_theory.specs.Kept as kept
use Rattle.std.specs.Option.{option_map}
use Rattle.naive_meaning.specs.Faithful.{after}
use Rattle.naive_meaning.specs.Records.{slot_kept, kept_of}

-- the part of a context is there, and is what the theory has
pub part-there : (cs : List ContextRecord) (slot : ℕ) (other : ContextRecord) → slot < length cs → slice_get cs slot ≡ Some (get_or cs slot other)
part-there [] slot other lt = absurd (omega arith)
part-there (c ∷ cs) zero other lt = refl
part-there (c ∷ cs) (suc slot) other lt = part-there cs slot other (omega arith)

-- and so for the record
pub kept-there : (r : Record) (slot : ℕ) → slot < length r.contexts → slice_get (kept_of r).slots slot ≡ Some (slot_kept (part_at r slot))
kept-there r slot lt = slice_get-map slot_kept r.contexts slot ∙ ap (option_map slot_kept) (part-there r.contexts slot (part_at r (length r.contexts)) lt) ∙ same r.contexts slot (part_at r (length r.contexts)) (record { lines = []; handled = []; left = []; spent = false }) lt
  where
    same : (cs : List ContextRecord) (slot : ℕ) (a b : ContextRecord) → slot < length cs → Some (slot_kept (get_or cs slot a)) ≡ Some (slot_kept (get_or cs slot b))
    same [] slot a b lt = absurd (omega arith)
    same (c ∷ cs) zero a b lt = refl
    same (c ∷ cs) (suc slot) a b lt = same cs slot a b (omega arith)

-- the log and the queue of a slot, whether it is there or not
pub log-at : (cs : List ContextRecord) (slot : ℕ) → kept.slot_log {I = Item} (slice_get (map slot_kept cs) slot) ≡ map lifted (log_of (get_or cs slot (record { lines = []; handled = []; left = []; spent = false })))
log-at [] slot = refl
log-at (c ∷ cs) zero = refl
log-at (c ∷ cs) (suc slot) = log-at cs slot

-- no part, no log
pub log-past : (cs : List ContextRecord) (slot : ℕ) → length cs ≤ slot → log_of (get_or cs slot (record { lines = []; handled = []; left = []; spent = false })) ≡ []
log-past [] slot le = refl
log-past (c ∷ cs) zero le = absurd (omega arith)
log-past (c ∷ cs) (suc slot) le = log-past cs slot (omega arith)

-- what is left for the slot
pub left-at : (cs : List ContextRecord) (slot : ℕ) → kept.slot_left {I = Item} (slice_get (map slot_kept cs) slot) ≡ map lifted (get_or cs slot (record { lines = []; handled = []; left = []; spent = false })).left
left-at [] slot = refl
left-at (c ∷ cs) zero = refl
left-at (c ∷ cs) (suc slot) = left-at cs slot

-- naive evaluation is that of the theory
pub after-same : (p : Program) (settings : Settings) (c : Context) (last : ℕ) (log : List (Entry Cargo)) → after p c last log ≡ slot_after (slots_of p settings) c last log
after-same p settings c last [] = refl
after-same p settings c last (e ∷ es) = after-same p settings (handle p c (number_after last e) e.cargo) (number_after last e) es

-- so are the numbers
pub handled-numbers : (last : ℕ) (hs : List (Handled Cargo)) → numbers last (map (λ h. h.entry.stamp) hs) ≡ numbers_along last (map kept.entry_of hs)
handled-numbers last [] = refl
handled-numbers last (h ∷ hs) = ap (λ ns. number_after last h.entry ∷ ns) (handled-numbers (number_after last h.entry) hs)

-- and those of the steps
pub steps-numbers : (k last : ℕ) (steps : List (ReaderStep Item Cargo)) → numbers last (map stamp_of steps) ≡ numbers_along last (map (step_entry k) steps)
steps-numbers k last [] = refl
steps-numbers k last (step.Item i n ∷ steps) = ap (λ ns. (1 + max last 0) ∷ ns) (steps-numbers k (1 + max last 0) steps)
steps-numbers k last (step.Entry e n ∷ steps) = ap (λ ns. number_after last e ∷ ns) (steps-numbers k (number_after last e) steps)

-- no entry stands behind the one that spent the context
pub unspent-before : (p : Program) (settings : Settings) (c : Context) (last : ℕ) (log : List (Entry Cargo)) → IsUnspentSlot (slots_of p settings) c last log
    → (front rest : List (Entry Cargo)) (e : Entry Cargo) → log ≡ front ++ e ∷ rest → (after p c last front).spent ≡ false
unspent-before p settings c last [] h [] rest e i = absurd (cc)
unspent-before p settings c last [] h (f ∷ front) rest e i = absurd (cc)
unspent-before p settings c last (x ∷ xs) h [] rest e i = h.0
unspent-before p settings c last (x ∷ xs) h (f ∷ front) rest e i =
    let same : x ≡ f = cc in
    let others : xs ≡ front ++ e ∷ rest = cc in
    ap (λ (y : Entry Cargo). (after p (handle p c (number_after last y) y.cargo) (number_after last y) front).spent) (sym same)
    ∙ unspent-before p settings (handle p c (number_after last x) x.cargo) (number_after last x) xs h.1 front rest e others

-- and the other way round
pub before-unspent : (p : Program) (settings : Settings) (c : Context) (last : ℕ) (log : List (Entry Cargo)) → ((front rest : List (Entry Cargo)) (e : Entry Cargo) → log ≡ front ++ e ∷ rest → (after p c last front).spent ≡ false)
    → IsUnspentSlot (slots_of p settings) c last log
before-unspent p settings c last [] h = tt
before-unspent p settings c last (x ∷ xs) h =
    (h [] xs x refl, before-unspent p settings (handle p c (number_after last x) x.cargo) (number_after last x) xs (λ front rest e i. h (x ∷ front) rest e (ap (λ es. x ∷ es) i)))
