-- The machine's record, and what its loops leave.
use Rattle.std.proofs.Common.{◌≡◌, ◌+◌, ◌≤◌, ◌<◌, ◌∷◌, ◌++◌, ◌==◌, ◌⊎◌}
use Rattle.actor_theory.proofs.Common.{ℕ, zero, suc, List, [], length, Bool, true, false, cond, Option, Some, None, refl, sym, ◌∙◌, ap, subst, arith, inl, inr, map, slice_get, IfSome, cases_eq, eq-eqb, ne_eqb, Entry, Sent, Moment, mail, World, own, IsQuiet, left_of, Slots, Reader, lifted, SlotKept, Kept, slot_log, slot_left, world_of_kept, IsNaive, IsKept, Cell, ReaderCell, cell_log, queue_at, own_items, world_of, IsCellOf, Stand, delivered, kept_of}
use Rattle.actor_theory.specs.Order.{ordered}
use Rattle.actor_theory.specs.Joined.{joined}
use Rattle.actor_theory.specs.Machine.{slot_kept, slots_kept}
use Rattle.actor_theory.proofs.Leaving.{ordered-lifted, ordered-nil}
use Rattle.actor_theory.proofs.Keeping.{log-reader, queue-reader, log-slot, queue-slot}
use Rattle.actor_theory.proofs.Recording.{get-none}
use Rattle.actor_theory.proofs.Queues.{length-arrived, delivered-at, queue-past}
use Rattle.actor_theory.proofs.Cells.{reader-log, reader-moment}
use Rattle.actor_theory.proofs.Scheduled.{quiet-left}

length-kept : {S X C : Type 0} (contexts : ℕ) (A : Slots S C) (shows : S → X) (queued : List (List (Entry C))) (k : ℕ) (cells : List (Cell S C)) → length (slots_kept contexts A shows queued k cells) ≡ length cells
length-kept contexts A shows queued k [] = refl
length-kept contexts A shows queued k (c ∷ cells) = ap suc (length-kept contexts A shows queued (suc k) cells)

-- what is kept of the cell at a place, with the queue of its slot
abbrev kept_at : {S X C : Type 0} → ℕ → Slots S C → (S → X) → List (List (Entry C)) → ℕ → Option (Cell S C) → Option (SlotKept X C)
kept_at contexts A shows queued k None = None
kept_at contexts A shows queued k (Some c) = Some (slot_kept contexts A shows c (queue_at queued k))

get-kept : {S X C : Type 0} (contexts : ℕ) (A : Slots S C) (shows : S → X) (queued : List (List (Entry C))) (j k : ℕ) (cells : List (Cell S C))
    → slice_get (slots_kept contexts A shows queued j cells) k ≡ kept_at contexts A shows queued (j + k) (slice_get cells k)
get-kept contexts A shows queued j k [] = refl
get-kept contexts A shows queued j zero (c ∷ cells) = let same : j ≡ j + 0 = omega arith in ap (λ i. Some (slot_kept contexts A shows c (queue_at queued i))) same
get-kept contexts A shows queued j (suc k) (c ∷ cells) = let same : suc j + k ≡ j + suc k = omega arith in get-kept contexts A shows queued (suc j) k cells ∙ ap (λ i. kept_at contexts A shows queued i (slice_get cells k)) same

-- the machine's record is that of its world, once no item is left
pub kept-of : {S R X C I : Type 0} (contexts : ℕ) (A : Slots S C) (B : Reader R C I) (shows : S → X) (cells : List (Cell S C)) (reader : ReaderCell R C I) (queued : List (List (Entry C))) → Stand contexts A B cells reader queued
    → reader.rest ≡ [] → IsKept contexts A B shows (world_of contexts cells reader queued) (kept_of contexts A shows cells reader queued)
kept-of {S} {R} {X} {C} {I} contexts A B shows cells reader queued h rest = record {
  naive = record { count = length-kept contexts A shows queued 0 cells ∙ h.cells_count; slots = naive; numbers = h.reader_is.numbers };
  logs = λ d. log d (cases_eq d contexts);
  lefts = λ d. left d (cases_eq d contexts);
}
  where
    kept : Kept X C I
    kept = kept_of contexts A shows cells reader queued

    w : World (C ⊎ I)
    w = world_of contexts cells reader queued

    get : (k : ℕ) → slice_get kept.slots k ≡ kept_at contexts A shows queued k (slice_get cells k)
    get k = let same : 0 + k ≡ k = omega arith in get-kept contexts A shows queued 0 k cells ∙ ap (λ i. kept_at contexts A shows queued i (slice_get cells k)) same

    one : (k : ℕ) (o : Option (Cell S C)) → IfSome o (IsCellOf A k) → IfSome (kept_at contexts A shows queued k o) (IsNaive A shows k)
    one k None is = tt
    one k (Some c) is = record { shown = ap shows is.state; numbers = is.numbers; spent = ap A.is_spent is.state }

    naive : (k : ℕ) → IfSome (slice_get kept.slots k) (IsNaive A shows k)
    naive k = let P : Option (SlotKept X C) → Type 0 = λ o. IfSome o (IsNaive A shows k) in subst P (sym (get k)) (one k (slice_get cells k) (h.cells_are k))

    log-at : (k : ℕ) (o : Option (Cell S C)) → ◌≡◌ {A = List (Entry (C ⊎ I))} (slot_log (kept_at contexts A shows queued k o)) (cell_log o)
    log-at k None = refl
    log-at k (Some c) = refl

    log-there : (d : ℕ) → (d ≡ contexts → ⊥) → cell_log (slice_get cells d) ≡ w.log d
    log-there d other = rw (ne_eqb d contexts other) refl

    log : (d : ℕ) → ((d ≡ contexts) ⊎ (d ≡ contexts → ⊥)) → (world_of_kept contexts kept).log d ≡ w.log d
    log d (inl at) = rw at (log-reader contexts kept ∙ sym (reader-log contexts cells reader queued))
    log d (inr other) = log-slot contexts kept d other ∙ ap slot_log (get d) ∙ log-at d (slice_get cells d) ∙ log-there d other

    no-items : (k : ℕ) (b : Bool) → ◌≡◌ {A = List (Entry (C ⊎ I))} (cond b (map (own contexts) (map inr [])) []) []
    no-items k true = refl
    no-items k false = refl

    queue : (k : ℕ) → w.queue k ≡ map lifted (queue_at queued k)
    queue k =
        ap (λ is. own_items contexts is k ++ map lifted (queue_at queued k)) rest ∙ ap (λ (es : List (Entry (C ⊎ I))). es ++ map lifted (queue_at queued k)) (no-items k (k == contexts))

    ordered-queue : (k : ℕ) → map lifted (ordered (suc contexts) (queue_at queued k)) ≡ left_of (joined contexts A B) w k
    ordered-queue k = sym (ordered-lifted (suc contexts) (queue_at queued k)) ∙ ap (ordered (suc contexts)) (sym (queue k))

    past : (d : ℕ) → (d ≡ contexts → ⊥) → slice_get cells d ≡ None → queue_at queued d ≡ []
    past d other none =
        let le = get-none cells d none in
        let cells_count = h.cells_count in
        let queues_count = h.queues_count in
        queue-past queued d (beyond d other le cells_count queues_count)
      where
        beyond : (d : ℕ) → (d ≡ contexts → ⊥) → length cells ≤ d → length cells ≡ contexts → length queued ≡ suc contexts → length queued ≤ d
        beyond d other le one two = omega arith

    left-at : (d : ℕ) → (d ≡ contexts → ⊥) → (o : Option (Cell S C)) → slice_get cells d ≡ o → ◌≡◌ {A = List (Entry (C ⊎ I))} (slot_left (kept_at contexts A shows queued d o)) (map lifted (ordered (suc contexts) (queue_at queued d)))
    left-at d other None e = sym (ap (map lifted) (ap (ordered (suc contexts)) (past d other e) ∙ ordered-nil (suc contexts)))
    left-at d other (Some c) e = refl

    left : (d : ℕ) → ((d ≡ contexts) ⊎ (d ≡ contexts → ⊥)) → (world_of_kept contexts kept).queue d ≡ left_of (joined contexts A B) w d
    left d (inl at) = rw at (queue-reader contexts kept ∙ ordered-queue contexts)
    left d (inr other) = queue-slot contexts kept d other ∙ ap slot_left (get d) ∙ left-at d other (slice_get cells d) refl ∙ ordered-queue d

-- queues that have gained, each at its end, what was sent to it
pub delivered-is : {C : Type 0} (s n : ℕ) (sent : List (Sent C)) (queued queued' : List (List (Entry C))) → length queued' ≡ length queued
    → ((k : ℕ) → k < length queued → queue_at queued' k ≡ queue_at queued k ++ mail s n k sent) → queued' ≡ delivered s n sent queued
delivered-is {C} s n sent queued queued' count each = queues-same queued' (delivered s n sent queued) (count ∙ sym (length-arrived s n sent 0 queued)) (λ k lt. each k (omega (arith, count)) ∙ sym (delivered-at s n sent queued k (omega (arith, count))))
  where
    queues-same : (xs ys : List (List (Entry C))) → length xs ≡ length ys → ((k : ℕ) → k < length xs → queue_at xs k ≡ queue_at ys k) → xs ≡ ys
    queues-same [] [] e h = refl
    queues-same [] (y ∷ ys) e h = absurd (omega arith)
    queues-same (x ∷ xs) [] e h = absurd (omega arith)
    queues-same (x ∷ xs) (y ∷ ys) e h = ap (λ z. z ∷ xs) (h 0 (omega arith)) ∙ ap (λ zs. y ∷ zs) (queues-same xs ys (omega arith) (λ k lt. h (suc k) (omega arith)))

-- the reader's last step of rounds: nothing found there, so no item is left
pub no-item : {S R C I : Type 0} (contexts : ℕ) (A : Slots S C) (B : Reader R C I) (cells : List (Cell S C)) (reader : ReaderCell R C I) (queued : List (List (Entry C))) → (world_of {S = S} contexts cells reader queued).queue contexts ≡ [] → reader.rest ≡ []
no-item {S} {R} {C} {I} contexts A B cells reader queued h = go reader.rest here
  where
    here : map (own {C = C ⊎ I} contexts) (map inr reader.rest) ++ map lifted (queue_at queued contexts) ≡ []
    here = let items : ◌≡◌ {A = List (Entry (C ⊎ I))} (own_items contexts reader.rest contexts) (map (own contexts) (map inr reader.rest)) = rw (eq-eqb contexts contexts refl) refl in
        ap (λ (es : List (Entry (C ⊎ I))). es ++ map lifted (queue_at queued contexts)) (sym items) ∙ h

    go : (items : List I) → map (own {C = C ⊎ I} contexts) (map inr items) ++ map lifted (queue_at queued contexts) ≡ [] → items ≡ []
    go [] e = refl
    go (i ∷ is) e = absurd (cc)

-- where the rounds have ended, no item is left
pub no-item_quiet : {S R C I : Type 0} (contexts : ℕ) (A : Slots S C) (B : Reader R C I) (cells : List (Cell S C)) (reader : ReaderCell R C I) (queued : List (List (Entry C))) → Stand contexts A B cells reader queued
    → IsQuiet (joined contexts A B) true (world_of contexts cells reader queued) → reader.rest ≡ []
no-item_quiet {S} {R} {C} {I} contexts A B cells reader queued h quiet =
    let alive = ap (λ (m : Moment (S ⊎ R)). (joined contexts A B).is_spent m.state) (reader-moment contexts A B cells reader queued h) in
    no-item contexts A B cells reader queued (quiet-left (joined contexts A B) (world_of contexts cells reader queued) quiet contexts (omega arith) alive)
