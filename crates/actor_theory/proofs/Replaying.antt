-- The order of a faithful record is a run, and gives the record again.
use Rattle.std.proofs.Common.{◌≡◌, ◌∷◌, ◌⊎◌}
use Rattle.actor_theory.proofs.Common.{ℕ, zero, suc, List, [], Option, Some, None, refl, sym, ◌∙◌, ap, subst, inl, inr, map, slice_get, IfSome, ne_eqb, eq-eqb, cases_eq, Entry, Handled, ReaderStep, Language, Moment, next, first, number_after, numbers_along, World, start, step, steps, follow, Handling, handlings_from, handlings, merged, insert_all, pick_of, FindsEach, order_of, left_of, Slots, Reader, lifted, step_entry, step_number, SlotKept, Kept, number_of, slot_log, slot_left, world_of_kept, IsNaive, IsSlotEnded, IsFaithful, IsKept}
use Rattle.actor_theory.specs.Order.{ordered}
use Rattle.actor_theory.specs.Joined.{joined}
use Rattle.actor_theory.specs.Kept.{entry_of}
use Rattle.actor_theory.specs.Replay.{slot_handling, reader_handling, slot_handlings, kept_handlings, order_of_kept, IsReplayedKept}
use Rattle.actor_theory.proofs.Merging.{order-is}
use Rattle.actor_theory.proofs.Ordering.{faithful-replayed}
use Rattle.actor_theory.proofs.Leaving.{ordered-lifted, ordered-nil}
use Rattle.actor_theory.proofs.Keeping.{log-reader, log-slot, faithful-run}

slot-numbers : {S C I : Type 0} (L : Language S (C ⊎ I)) (d : ℕ) (m : Moment S) (hs : List (Handled C)) → map number_of hs ≡ numbers_along m.number (map entry_of hs) → map (slot_handling d) hs ≡ handlings_from L d m (map lifted (map entry_of hs))
slot-numbers L d m [] h = refl
slot-numbers {S} {C} {I} L d m (x ∷ xs) h =
    let number : x.number ≡ number_after m.number x.entry = cc in
    let numbers : map number_of xs ≡ numbers_along (number_after m.number x.entry) (map entry_of xs) = cc in
    let made : ℕ → Handling (C ⊎ I) = λ n. record { number = n; actor = d; entry = lifted x.entry } in
    ap (λ n. made n ∷ map (slot_handling d) xs) number ∙ ap (λ r. made (number_after m.number x.entry) ∷ r) (slot-numbers L d (next L m (lifted x.entry)) xs numbers)

reader-numbers : {S C I : Type 0} (L : Language S (C ⊎ I)) (r : ℕ) (m : Moment S) (ss : List (ReaderStep I C)) → map step_number ss ≡ numbers_along m.number (map (step_entry r) ss) → map (reader_handling r) ss ≡ handlings_from L r m (map (step_entry r) ss)
reader-numbers L r m [] h = refl
reader-numbers {S} {C} {I} L r m (s ∷ ss) h =
    let number : step_number s ≡ number_after m.number (step_entry r s) = cc in
    let numbers : map step_number ss ≡ numbers_along (number_after m.number (step_entry r s)) (map (step_entry r) ss) = cc in
    let made : ℕ → Handling (C ⊎ I) = λ n. record { number = n; actor = r; entry = step_entry r s } in
    ap (λ n. made n ∷ map (reader_handling r) ss) number ∙ ap (λ es. made (number_after m.number (step_entry r s)) ∷ es) (reader-numbers L r (next L m (step_entry r s)) ss numbers)

merged-same : {C : Type 0} (f g : ℕ → List (Handling C)) (n : ℕ) → ((d : ℕ) → f d ≡ g d) → merged f n ≡ merged g n
merged-same f g zero h = refl
merged-same f g (suc n) h = ap (λ hs. insert_all hs (merged f n)) (h n) ∙ ap (insert_all (g n)) (merged-same f g n h)

-- a faithful record's handlings are those of its logs
pub handlings-kept : {S R X C I : Type 0} (contexts : ℕ) (A : Slots S C) (B : Reader R C I) (shows : S → X) (items : List I) (kept : Kept X C I) → IsFaithful contexts A B shows items kept
    → (d : ℕ) → kept_handlings contexts kept d ≡ handlings (joined contexts A B) d ((world_of_kept contexts kept).log d)
handlings-kept {S} {R} {X} {C} {I} contexts A B shows items kept h d = go (cases_eq d contexts)
  where
    at-slot : (o : Option (SlotKept X C)) → slice_get kept.slots d ≡ o → slot_handlings d o ≡ handlings (joined contexts A B) d (slot_log o)
    at-slot None e = refl
    at-slot (Some c) e = let P : Option (SlotKept X C) → Type 0 = λ o. IfSome o (IsNaive A shows d) in let naive : IsNaive A shows d c = subst P e (h.naive.slots d) in slot-numbers (joined contexts A B) d (first (joined contexts A B) d) c.handled naive.numbers

    here : kept_handlings contexts kept contexts ≡ map (reader_handling contexts) kept.steps
    here = rw (eq-eqb contexts contexts refl) refl

    there : (d ≡ contexts → ⊥) → kept_handlings contexts kept d ≡ slot_handlings d (slice_get kept.slots d)
    there other = rw (ne_eqb d contexts other) refl

    reader : map (reader_handling contexts) kept.steps ≡ handlings (joined contexts A B) contexts (map (step_entry contexts) kept.steps)
    reader = reader-numbers (joined contexts A B) contexts (first (joined contexts A B) contexts) kept.steps h.naive.numbers

    go : ((d ≡ contexts) ⊎ (d ≡ contexts → ⊥)) → kept_handlings contexts kept d ≡ handlings (joined contexts A B) d ((world_of_kept contexts kept).log d)
    go (inl at) = rw at (here ∙ reader ∙ ap (handlings (joined contexts A B) contexts) (sym (log-reader contexts kept)))
    go (inr other) = there other ∙ at-slot (slice_get kept.slots d) refl ∙ ap (handlings (joined contexts A B) d) (sym (log-slot contexts kept d other))

order-kept : {S R X C I : Type 0} (contexts : ℕ) (A : Slots S C) (B : Reader R C I) (shows : S → X) (items : List I) (kept : Kept X C I) → IsFaithful contexts A B shows items kept
    → order_of_kept contexts kept ≡ map pick_of (order_of (joined contexts A B) (world_of_kept contexts kept))
order-kept contexts A B shows items kept h =
    ap (map pick_of) (merged-same (kept_handlings contexts kept) (λ d. handlings (joined contexts A B) d ((world_of_kept contexts kept).log d)) (suc contexts) (handlings-kept contexts A B shows items kept h))

-- what is left in a faithful record is in order already
left-kept : {S R X C I : Type 0} (contexts : ℕ) (A : Slots S C) (B : Reader R C I) (shows : S → X) (items : List I) (kept : Kept X C I) → IsFaithful contexts A B shows items kept
    → (d : ℕ) → left_of (joined contexts A B) (world_of_kept contexts kept) d ≡ (world_of_kept contexts kept).queue d
left-kept {S} {R} {X} {C} {I} contexts A B shows items kept h d = go (cases_eq d contexts)
  where
    at-slot : (o : Option (SlotKept X C)) → slice_get kept.slots d ≡ o → ◌≡◌ {A = List (Entry (C ⊎ I))} (ordered (suc contexts) (slot_left o)) (slot_left o)
    at-slot None e = ordered-nil (suc contexts)
    at-slot (Some c) e =
        let P : Option (SlotKept X C) → Type 0 = λ o. IfSome o (IsSlotEnded contexts A d) in
        let ended : IsSlotEnded contexts A d c = subst P e (h.ended d) in
        ordered-lifted (suc contexts) c.left ∙ ap (map lifted) (sym ended.by_sender)

    reader : ◌≡◌ {A = List (Entry (C ⊎ I))} (ordered (suc contexts) (map lifted kept.left)) (map lifted kept.left)
    reader = rw h.no_left (ordered-nil (suc contexts))

    go : ((d ≡ contexts) ⊎ (d ≡ contexts → ⊥)) → ordered (suc contexts) ((world_of_kept contexts kept).queue d) ≡ (world_of_kept contexts kept).queue d
    go (inl at) = rw (at, eq-eqb contexts contexts refl) reader
    go (inr other) = rw (ne_eqb d contexts other) (at-slot (slice_get kept.slots d) refl)

pub kept-replayed : {S R X C I : Type 0} (contexts : ℕ) (A : Slots S C) (B : Reader R C I) (shows : S → X) (items : List I) (kept : Kept X C I) → IsFaithful contexts A B shows items kept
    → IsReplayedKept contexts A B shows items kept
kept-replayed {S} {R} {X} {C} {I} contexts A B shows items kept h =
    let L : Language (S ⊎ R) (C ⊎ I) = joined contexts A B in
    let w : World (C ⊎ I) = world_of_kept contexts kept in
    let run = faithful-run contexts A B shows items kept h in
    let again = faithful-replayed L (map inr items) w (order_of L w) run (order-is L w run.others) in
    let order = order-kept contexts A B shows items kept h in
    let F : List (ℕ × ℕ) → Type 0 = FindsEach L (start L (map inr items)) in
    let K : List (ℕ × ℕ) → Type 0 = λ ps. IsKept contexts A B shows (steps L (start L (map inr items)) ps) kept in
    let kept_again : K (map pick_of (order_of L w)) = record {
      naive = h.naive;
      logs = λ d. sym (again.same.logs d);
      lefts = λ d. sym (left-kept contexts A B shows items kept h d) ∙ sym (again.same.lefts d);
    } in
    record { finds = subst F (sym order) again.finds; same = subst K (sym order) kept_again }

-- picks that each name a sender are the steps
abbrev pub naming : ℕ × ℕ → ℕ × Option ℕ
naming p = (p.0, Some p.1)

pub follow-named : {S C : Type 0} (L : Language S C) (w : World C) (ps : List (ℕ × ℕ)) → follow L w (map naming ps) ≡ steps L w ps
follow-named L w [] = refl
follow-named L w (p ∷ ps) = follow-named L (step L w p) ps
