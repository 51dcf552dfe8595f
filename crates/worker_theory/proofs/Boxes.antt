-- Boxes of entries, by target.
use Rattle.std.proofs.Common.{◌≡◌, ℕ, ◌<◌, ◌≤◌, List, [], ◌∷◌, ◌++◌, Bool, true, false, cond, sym, ◌∙◌, ap, append_assoc, arith, length, slice_set, map, filter, ◌⊎◌, inl, inr}
use Rattle.std.specs.List.{AllByRecursion}
use Rattle.std.proofs.lemmas.Bool.{eq-eqb, ne_eqb, cases_eq, cases_lt}
use Rattle.actor_theory.specs.declared.entry.Entry.{Entry}
use Rattle.actor_theory.specs.Language.{Sent, stamped, is_for, mail}
use Rattle.actor_theory.specs.Machine.{queue_in, queue_at, delivered}
use Rattle.actor_theory.proofs.Queues.{get-set_same, get-set_other, length-set, length-arrived, delivered-at, queue-past, all-append}
use Rattle.actor_theory.proofs.Ending.{delivered-is}
use Rattle.worker_theory.specs.Working.{put}

-- the box that was set
pub set-here : {C : Type 0} (boxes : List (List (Entry C))) (t : ℕ) (q : List (Entry C)) → t < length boxes → queue_at (slice_set boxes t q) t ≡ q
set-here boxes t q lt = ap queue_in (get-set_same boxes t q lt)

-- and any other
pub set-there : {C : Type 0} (boxes : List (List (Entry C))) (t k : ℕ) (q : List (Entry C)) → (k ≡ t → ⊥) → queue_at (slice_set boxes t q) k ≡ queue_at boxes k
set-there boxes t k q other = ap queue_in (get-set_other boxes t k q other)

-- what is sent goes into the boxes one after another
pub put-delivered : {C : Type 0} (s n : ℕ) (x : Sent C) (xs : List (Sent C)) (boxes : List (List (Entry C))) → x.target < length boxes → delivered s n xs (put x.target (stamped s n x) boxes) ≡ delivered s n (x ∷ xs) boxes
put-delivered {C} s n x xs boxes lt = delivered-is s n (x ∷ xs) boxes (delivered s n xs more) (length-arrived s n xs 0 more ∙ count) (λ k within. at k within (cases_eq k x.target))
  where
    more : List (List (Entry C))
    more = put x.target (stamped s n x) boxes

    count : length more ≡ length boxes
    count = length-set boxes x.target (queue_at boxes x.target ++ stamped s n x ∷ [])

    at : (k : ℕ) → k < length boxes → ((k ≡ x.target) ⊎ (k ≡ x.target → ⊥)) → queue_at (delivered s n xs more) k ≡ queue_at boxes k ++ mail s n k (x ∷ xs)
    at k within (inl same) =
        let here : queue_at more k ≡ queue_at boxes k ++ stamped s n x ∷ [] = rw same (set-here boxes x.target (queue_at boxes x.target ++ stamped s n x ∷ []) lt) in
        delivered-at s n xs more k (omega (arith, within, count)) ∙ ap (λ es. es ++ mail s n k xs) here ∙ append_assoc (queue_at boxes k) (stamped s n x ∷ []) (mail s n k xs)
        ∙ ap (λ b. queue_at boxes k ++ map (stamped s n) (cond b (x ∷ filter (is_for k) xs) (filter (is_for k) xs))) (sym (eq-eqb x.target k (sym same)))
    at k within (inr other) =
        delivered-at s n xs more k (omega (arith, within, count)) ∙ ap (λ es. es ++ mail s n k xs) (set-there boxes x.target k (queue_at boxes x.target ++ stamped s n x ∷ []) other)
        ∙ ap (λ b. queue_at boxes k ++ map (stamped s n) (cond b (x ∷ filter (is_for k) xs) (filter (is_for k) xs))) (sym (ne_eqb x.target k (λ i. other (sym i))))

-- what holds of each that is sent holds of each that is sent to k
pub all-mailed : {C : Type 0} (P : Entry C → Type 0) (s n k : ℕ) (xs : List (Sent C)) → AllByRecursion (λ x. P (stamped s n x)) xs → AllByRecursion P (mail s n k xs)
all-mailed P s n k [] h = tt
all-mailed P s n k (x ∷ xs) h = go (all-mailed P s n k xs h.1) (is_for k x)
  where
    go : AllByRecursion P (mail s n k xs) → (b : Bool) → AllByRecursion P (map (stamped s n) (cond b (x ∷ filter (is_for k) xs) (filter (is_for k) xs)))
    go ih true = (h.0, ih)
    go ih false = ih

-- what holds of each entry in the boxes, and of each that is sent, holds of each in the boxes then
pub all-delivered : {C : Type 0} (P : Entry C → Type 0) (s n : ℕ) (xs : List (Sent C)) (boxes : List (List (Entry C))) → AllByRecursion (λ x. P (stamped s n x)) xs → ((k : ℕ) → AllByRecursion P (queue_at boxes k))
    → (k : ℕ) → AllByRecursion P (queue_at (delivered s n xs boxes) k)
all-delivered P s n xs boxes sent kept k = go (cases_lt k (length boxes))
  where
    go : ((k < length boxes) ⊎ (length boxes ≤ k)) → AllByRecursion P (queue_at (delivered s n xs boxes) k)
    go (inl lt) = rw (delivered-at s n xs boxes k lt) (all-append P (queue_at boxes k) (mail s n k xs) (kept k) (all-mailed P s n k xs sent))
    go (inr le) = let count = length-arrived s n xs 0 boxes in rw (queue-past (delivered s n xs boxes) k (omega (arith, le, count))) tt
