-- A run has one record.
use Rattle.std.proofs.Common.{◌≡◌, ◌≤◌, ◌∷◌, ◌⊎◌}
use Rattle.actor_theory.proofs.Common.{ℕ, zero, suc, List, [], Bool, true, Option, Some, None, refl, sym, ◌∙◌, ap, subst, arith, inl, inr, map, length, slice_get, IfSome, slice_get_past, Entry, Handled, ReaderStep, Item, numbers_along, World, IsFinished, BeginsWithBoot, IsCausal, Slots, Reader, lifted, slot_after, step_entry, step_number, SlotKept, Kept, number_of, log_of, slot_log, slot_left, world_of_kept, IsNaive, IsFaithful, IsKept, IsScheduled}
use Rattle.actor_theory.specs.declared.entry.ReaderStep.TheVariants.{Entry as Taken}
use Rattle.actor_theory.specs.Holds.{Holds}
use Rattle.actor_theory.specs.Joined.{joined}
use Rattle.actor_theory.specs.Kept.{entry_of}
use Rattle.actor_theory.proofs.Leaving.{lifted-same, lifted-all}
use Rattle.actor_theory.proofs.Unique.{scheduled-unique}
use Rattle.actor_theory.proofs.Beside.{holds-finished}
use Rattle.actor_theory.proofs.Causes.{faithful-causal}
use Rattle.actor_theory.proofs.Keeping.{log-reader, queue-reader, log-slot, queue-slot, get-within, kept-faithful, faithful-run}

handled-same : {C : Type 0} (hs gs : List (Handled C)) → map entry_of hs ≡ map entry_of gs → map number_of hs ≡ map number_of gs → hs ≡ gs
handled-same [] [] e n = refl
handled-same [] (g ∷ gs) e n = absurd (cc)
handled-same (h ∷ hs) [] e n = absurd (cc)
handled-same {C} (h ∷ hs) (g ∷ gs) e n =
    let entry : h.entry ≡ g.entry = cc in
    let number : h.number ≡ g.number = cc in
    let entries : map entry_of hs ≡ map entry_of gs = cc in
    let numbers : map number_of hs ≡ map number_of gs = cc in
    let made : Entry C → ℕ → Handled C = λ x k. record { entry = x; number = k } in
    let head : h ≡ g = ap (λ x. made x h.number) entry ∙ ap (made g.entry) number in
    ap (λ x. x ∷ hs) head ∙ ap (λ xs. g ∷ xs) (handled-same hs gs entries numbers)

-- the item, or another where there is a cargo
abbrev item_or : {C I : Type 0} → I → C ⊎ I → I
item_or other (inl c) = other
item_or other (inr i) = i

abbrev IsItem : {C I : Type 0} → C ⊎ I → Type 0
IsItem (inl c) = ⊥
IsItem (inr i) = Unit {0}

step-same : {I C : Type 0} (r : ℕ) (s t : ReaderStep I C) → step_entry r s ≡ step_entry r t → step_number s ≡ step_number t → s ≡ t
step-same {I} {C} r (Item i n) (Item j m) e k = ap (λ (x : Entry (C ⊎ I)). Item (item_or i x.cargo) n) e ∙ ap (Item j) k
step-same {I} {C} r (Item i n) (Taken f m) e k = let P : C ⊎ I → Type 0 = IsItem in absurd (subst P (ap (λ (x : Entry (C ⊎ I)). x.cargo) e) tt)
step-same {I} {C} r (Taken f n) (Item j m) e k = let P : C ⊎ I → Type 0 = IsItem in absurd (subst P (sym (ap (λ (x : Entry (C ⊎ I)). x.cargo) e)) tt)
step-same r (Taken f n) (Taken g m) e k = ap (λ x. Taken x n) (lifted-same f g e) ∙ ap (Taken g) k

steps-same : {I C : Type 0} (r : ℕ) (ss ts : List (ReaderStep I C)) → map (step_entry r) ss ≡ map (step_entry r) ts → map step_number ss ≡ map step_number ts → ss ≡ ts
steps-same r [] [] e n = refl
steps-same r [] (t ∷ ts) e n = absurd (cc)
steps-same r (s ∷ ss) [] e n = absurd (cc)
steps-same r (s ∷ ss) (t ∷ ts) e n =
    let entry : step_entry r s ≡ step_entry r t = cc in
    let number : step_number s ≡ step_number t = cc in
    let entries : map (step_entry r) ss ≡ map (step_entry r) ts = cc in
    let numbers : map step_number ss ≡ map step_number ts = cc in
    ap (λ x. x ∷ ss) (step-same r s t entry number) ∙ ap (λ xs. t ∷ xs) (steps-same r ss ts entries numbers)

-- lists with the same at each place are the same
list-same : {X : Type 0} (xs ys : List X) → ((k : ℕ) → slice_get xs k ≡ slice_get ys k) → xs ≡ ys
list-same [] [] h = refl
list-same [] (y ∷ ys) h = let here = h 0 in absurd (cc)
list-same (x ∷ xs) [] h = let here = h 0 in absurd (cc)
list-same (x ∷ xs) (y ∷ ys) h = let here = h 0 in let head : x ≡ y = cc in ap (λ z. z ∷ xs) head ∙ ap (λ zs. y ∷ zs) (list-same xs ys (λ k. h (suc k)))

pub get-none : {X : Type 0} (xs : List X) (k : ℕ) → slice_get xs k ≡ None → length xs ≤ k
get-none [] k h = omega arith
get-none (x ∷ xs) zero h = absurd (cc)
get-none (x ∷ xs) (suc k) h = let ih = get-none xs k h in omega arith

slot-same : {S X C : Type 0} (A : Slots S C) (shows : S → X) (slot : ℕ) (c d : SlotKept X C) → IsNaive A shows slot c → IsNaive A shows slot d → log_of c ≡ log_of d → c.left ≡ d.left → c ≡ d
slot-same {S} {X} {C} A shows slot c d p q log left =
    let made : X → List (Handled C) → List (Entry C) → Bool → SlotKept X C = λ x hs es b. record { shown = x; handled = hs; left = es; spent = b } in
    let shown : c.shown ≡ d.shown = p.shown ∙ ap (λ l. shows (slot_after A (A.start slot) 0 l)) log ∙ sym q.shown in
    let handled : c.handled ≡ d.handled = handled-same c.handled d.handled log (p.numbers ∙ ap (numbers_along 0) log ∙ sym q.numbers) in
    let spent : c.spent ≡ d.spent = p.spent ∙ ap (λ l. A.is_spent (slot_after A (A.start slot) 0 l)) log ∙ sym q.spent in
    ap (λ x. made x c.handled c.left c.spent) shown ∙ ap (λ hs. made d.shown hs c.left c.spent) handled ∙ ap (λ es. made d.shown d.handled es c.spent) left ∙ ap (made d.shown d.handled d.left) spent

pub kept-unique : {S R X C I : Type 0} (contexts : ℕ) (A : Slots S C) (B : Reader R C I) (shows : S → X) (w : World (C ⊎ I)) (kept other : Kept X C I)
    → IsKept contexts A B shows w kept → IsKept contexts A B shows w other → kept ≡ other
kept-unique {S} {R} {X} {C} {I} contexts A B shows w kept other h g =
    let made : List (SlotKept X C) → List (ReaderStep I C) → List (Entry C) → Kept X C I = λ cs ss es. record { slots = cs; steps = ss; left = es } in
    let entries : map (step_entry contexts) kept.steps ≡ map (step_entry contexts) other.steps = sym (log-reader contexts kept) ∙ h.logs contexts ∙ sym (g.logs contexts) ∙ log-reader contexts other in
    let steps : kept.steps ≡ other.steps = steps-same contexts kept.steps other.steps entries (h.naive.numbers ∙ ap (numbers_along 0) entries ∙ sym g.naive.numbers) in
    let left : kept.left ≡ other.left = lifted-all kept.left other.left (sym (queue-reader contexts kept) ∙ h.lefts contexts ∙ sym (g.lefts contexts) ∙ queue-reader contexts other) in
    ap (λ cs. made cs kept.steps kept.left) (list-same kept.slots other.slots (λ k. at k (slice_get kept.slots k) refl (slice_get other.slots k) refl)) ∙ ap (λ ss. made other.slots ss kept.left) steps ∙ ap (made other.slots other.steps) left
  where
    at : (k : ℕ) (a : Option (SlotKept X C)) → slice_get kept.slots k ≡ a → (b : Option (SlotKept X C)) → slice_get other.slots k ≡ b → slice_get kept.slots k ≡ slice_get other.slots k
    at k None p b q =
        let past = get-none kept.slots k p in
        let one = h.naive.count in
        let two = g.naive.count in
        p ∙ sym (slice_get_past other.slots k (omega arith))
    at k (Some c) p None q =
        let within = get-within kept.slots k c p in
        let past = get-none other.slots k q in
        let one = h.naive.count in
        let two = g.naive.count in
        absurd (omega arith)
    at k (Some c) p (Some d) q =
        let within = get-within kept.slots k c p in
        let one = h.naive.count in
        let not_reader : k ≡ contexts → ⊥ = λ i. omega arith in
        let P : Option (SlotKept X C) → Type 0 = λ o. IfSome o (IsNaive A shows k) in
        let log : ◌≡◌ {A = List (Entry (C ⊎ I))} (map lifted (log_of c)) (map lifted (log_of d)) =
        sym (log-slot contexts kept k not_reader ∙ ap slot_log p) ∙ h.logs k ∙ sym (g.logs k) ∙ log-slot contexts other k not_reader ∙ ap slot_log q in
        let left : ◌≡◌ {A = List (Entry (C ⊎ I))} (map lifted c.left) (map lifted d.left) =
        sym (queue-slot contexts kept k not_reader ∙ ap slot_left p) ∙ h.lefts k ∙ sym (g.lefts k) ∙ queue-slot contexts other k not_reader ∙ ap slot_left q in
        p ∙ ap (λ x. Some x) (slot-same A shows k c d (subst P p (h.naive.slots k)) (subst P q (g.naive.slots k)) (lifted-all (log_of c) (log_of d) log) (lifted-all c.left d.left left)) ∙ sym q

-- a schedule makes one record
pub scheduled-once : {S R X C I : Type 0} (contexts : ℕ) (A : Slots S C) (B : Reader R C I) (shows : S → X) (items : List I) (picks : List (ℕ × Option ℕ)) (kept other : Kept X C I)
    → IsScheduled contexts A B shows items picks kept → IsScheduled contexts A B shows items picks other → kept ≡ other
scheduled-once {S} {R} {X} {C} {I} contexts A B shows items picks kept other h g =
    let same = scheduled-unique (joined contexts A B) (map inr items) picks h.world g.world h.scheduled g.scheduled in
    let P : World (C ⊎ I) → Type 0 = λ w. IsKept contexts A B shows w kept in
    kept-unique contexts A B shows g.world kept other (subst P same h.is_kept) g.is_kept

-- rounds give a faithful record, from whatever holds with all posted
pub finished-kept : {S R X C I : Type 0} (contexts : ℕ) (A : Slots S C) (B : Reader R C I) (shows : S → X) (items : List I) (v w : World (C ⊎ I)) (outbox : ℕ → ℕ → List (Entry (C ⊎ I))) (kept : Kept X C I)
    → Holds (joined contexts A B) (map inr items) v outbox → ((s d : ℕ) → outbox s d ≡ []) → BeginsWithBoot (joined contexts A B) v → IsFinished (joined contexts A B) true v w
    → IsKept contexts A B shows w kept → IsFaithful contexts A B shows items kept
finished-kept contexts A B shows items v w outbox kept holds empty boot finished k =
    kept-faithful contexts A B shows items w kept k (holds-finished (joined contexts A B) (map inr items) v w outbox holds empty boot finished)

-- numbers are causal
pub kept-causal : {S R X C I : Type 0} (contexts : ℕ) (A : Slots S C) (B : Reader R C I) (shows : S → X) (items : List I) (kept : Kept X C I)
    → IsFaithful contexts A B shows items kept → IsCausal (joined contexts A B) (world_of_kept contexts kept)
kept-causal contexts A B shows items kept h = faithful-causal (joined contexts A B) (map inr items) (world_of_kept contexts kept) (faithful-run contexts A B shows items kept h)
