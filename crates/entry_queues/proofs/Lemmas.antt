-- Queues by actor.
use Rattle.std.proofs.Common.{◌≡◌, ◌+◌, ◌<◌, ◌≤◌, ◌∷◌, ◌++◌, ℕ, zero, suc, List, [], refl, sym, ◌∙◌, ap, arith, length, get_or, slice_set, append-nil, ◌⊎◌}
use Rattle.std.proofs.Common.{inl, inr, slice_get, drop, Option, Some, None}
use Rattle.std.specs.Prelude.{MatchOption}
use Rattle.std.specs.Borrow.{Bor}
use Rattle.std.specs.Option.{option_copied}
use Rattle.entry_queues.specs.Queued.{first_of}
use Rattle.std.proofs.lemmas.Option.{slice_get-get_or}
use Rattle.actor_theory.specs.declared.entry.Entry.{Entry}
use Rattle.actor_theory.specs.Machine.{queue_at, queue_in, empty_queues}
use Rattle.actor_theory.proofs.Queues.{get-set_same, get-set_other, length-set}
use Rattle.record_book.specs.declared.cargo.Cargo.{Cargo}

-- one more empty queue, at the end or at the front
pub empty-more : (n : ℕ) → ◌≡◌ {A = List (List (Entry Cargo))} (empty_queues n ++ [] ∷ []) ([] ∷ empty_queues n)
empty-more zero = refl
empty-more (suc n) = ap (λ (qs : List (List (Entry Cargo))). [] ∷ qs) (empty-more n)

-- a queue that is read, and one that is put
pub read-at : (qs : List (List (Entry Cargo))) (k : ℕ) (d : List (Entry Cargo)) → k < length qs → queue_at qs k ≡ get_or qs k d
read-at qs k d lt = ap queue_in (slice_get-get_or qs k d lt)

pub put-at : (qs : List (List (Entry Cargo))) (k : ℕ) (q : List (Entry Cargo)) → k < length qs → queue_at (slice_set qs k q) k ≡ q
put-at qs k q lt = ap queue_in (get-set_same qs k q lt)

pub put-other : (qs : List (List (Entry Cargo))) (k j : ℕ) (q : List (Entry Cargo)) → (j ≡ k → ⊥) → queue_at (slice_set qs k q) j ≡ queue_at qs j
put-other qs k j q other = ap queue_in (get-set_other qs k j q other)

-- the first of a queue that is read
pub first-copied : (qs : List (List (Entry Cargo))) (k : ℕ) (q : List (Entry Cargo)) (o : Option (Bor (Entry Cargo))) → k < length qs → q ≡ get_or qs k q → MatchOption o (q ≡ []) (λ f. q ≡ f.now ∷ drop 1 q) → option_copied o ≡ first_of (queue_at qs k)
first-copied qs k q None lt read h = sym (ap first_of (read-at qs k q lt ∙ sym read ∙ h))
first-copied qs k q (Some f) lt read h = sym (ap first_of (read-at qs k q lt ∙ sym read ∙ h))
