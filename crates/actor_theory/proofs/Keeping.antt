-- The record of a run, and the run of a record.
use Rattle.std.proofs.Common.{◌≡◌, ◌<◌, ◌∷◌, ◌++◌, ◌==◌, ◌⊎◌}
use Rattle.actor_theory.proofs.Common.{ℕ, zero, suc, List, [], Bool, true, false, cond, Option, Some, None, refl, sym, ◌∙◌, ap, subst, append-nil, arith, inl, inr, map, length, slice_get, IfSome, eq-eqb, ne_eqb, cases_eq, slice_get_past, Entry, ReaderStep, Item, Moment, first, naive, by, World, own, IsUnspentAlong, IsFaithfulRun, Slots, Reader, lifted, step_entry, SlotKept, Kept, log_of, slot_log, slot_left, world_of_kept, IsNaive, IsSlotEnded, IsFaithful, IsKept, IsScheduled}
use Rattle.actor_theory.specs.declared.entry.ReaderStep.TheVariants.{Entry as Taken}
use Rattle.actor_theory.specs.Order.{ordered}
use Rattle.actor_theory.specs.Joined.{joined, items_of}
use Rattle.actor_theory.specs.Kept.{IsBySender}
use Rattle.actor_theory.proofs.Given.{sends-own}
use Rattle.actor_theory.proofs.Joining.{naive-slot, naive-reader, unspent-joined, unspent-slot, unspent-reader, joined-quiet}
use Rattle.actor_theory.proofs.Leaving.{ordered-twice, ordered-faithful, ordered-lifted, lifted-all}
use Rattle.actor_theory.proofs.Scheduled.{scheduled-faithful}

-- the logs and queues of a record
pub log-reader : {X C I : Type 0} (contexts : ℕ) (kept : Kept X C I) → (world_of_kept contexts kept).log contexts ≡ map (step_entry contexts) kept.steps
log-reader contexts kept = rw (eq-eqb contexts contexts refl) refl

pub queue-reader : {X C I : Type 0} (contexts : ℕ) (kept : Kept X C I) → (world_of_kept contexts kept).queue contexts ≡ map lifted kept.left
queue-reader contexts kept = rw (eq-eqb contexts contexts refl) refl

pub log-slot : {X C I : Type 0} (contexts : ℕ) (kept : Kept X C I) (d : ℕ) → (d ≡ contexts → ⊥) → (world_of_kept contexts kept).log d ≡ slot_log (slice_get kept.slots d)
log-slot contexts kept d other = rw (ne_eqb d contexts other) refl

pub queue-slot : {X C I : Type 0} (contexts : ℕ) (kept : Kept X C I) (d : ℕ) → (d ≡ contexts → ⊥) → (world_of_kept contexts kept).queue d ≡ slot_left (slice_get kept.slots d)
queue-slot contexts kept d other = rw (ne_eqb d contexts other) refl

pub get-within : {X : Type 0} (xs : List X) (d : ℕ) (x : X) → slice_get xs d ≡ Some x → d < length xs
get-within [] d x h = absurd (cc)
get-within (y ∷ ys) zero x h = omega arith
get-within (y ∷ ys) (suc d) x h = let ih = get-within ys d x h in omega arith

lifted-none : {C I : Type 0} (es : List (Entry C)) → ◌≡◌ {A = List (Entry (C ⊎ I))} (map lifted es) [] → es ≡ []
lifted-none [] h = refl
lifted-none (e ∷ es) h = absurd (cc)

-- the items among these cargoes
abbrev item_in : {C I : Type 0} → C ⊎ I → List I → List I
item_in (inl c) is = is
item_in (inr i) is = i ∷ is

abbrev items_in : {C I : Type 0} → List (Entry (C ⊎ I)) → List I
items_in [] = []
items_in (e ∷ es) = item_in e.cargo (items_in es)

items-own : (C : Type 0) {I : Type 0} (r : ℕ) (items : List I) → items_in (map (own {C = C ⊎ I} r) (map inr items)) ≡ items
items-own C r [] = refl
items-own C r (i ∷ is) = ap (λ xs. i ∷ xs) (items-own C r is)

items-steps : {C I : Type 0} (r : ℕ) (steps : List (ReaderStep I C)) → items_in (by r (map (step_entry r) steps)) ≡ items_of steps
items-steps r [] = refl
items-steps {C} {I} r (Item i n ∷ steps) = rw (eq-eqb r r refl) (ap (λ xs. i ∷ xs) (items-steps r steps))
items-steps {C} {I} r (Taken e n ∷ steps) = go (items-steps r steps) (e.sender == r)
  where
    go : items_in (by r (map (step_entry r) steps)) ≡ items_of steps → (b : Bool) → items_in (cond b (lifted e ∷ by r (map (step_entry r) steps)) (by r (map (step_entry r) steps))) ≡ items_of steps
    go ih true = ih
    go ih false = ih

-- the record of a faithful run is faithful
pub kept-faithful : {S R X C I : Type 0} (contexts : ℕ) (A : Slots S C) (B : Reader R C I) (shows : S → X) (items : List I) (w : World (C ⊎ I)) (kept : Kept X C I)
    → IsKept contexts A B shows w kept → IsFaithfulRun (joined contexts A B) (map inr items) w → IsFaithful contexts A B shows items kept
kept-faithful {S} {R} {X} {C} {I} contexts A B shows items w kept k h = record {
  naive = k.naive;
  ended = λ slot. ended slot (slice_get kept.slots slot) refl;
  items_are = sym (items-steps contexts kept.steps) ∙ ap items_in (sym (ap (by contexts) (at_log)) ∙ own_ones) ∙ items-own C contexts items;
  no_left = lifted-none kept.left (sym (queue-reader contexts kept) ∙ reader_left);
  delivered = run.delivered;
  boot = run.boot;
}
  where
    run : IsFaithfulRun (joined contexts A B) (map inr items) (world_of_kept contexts kept)
    run = ordered-faithful (joined contexts A B) (map inr items) w (world_of_kept contexts kept) k.logs k.lefts h

    at_log : (world_of_kept contexts kept).log contexts ≡ map (step_entry contexts) kept.steps
    at_log = log-reader contexts kept

    reader_left : (world_of_kept contexts kept).queue contexts ≡ []
    reader_left = run.nothing_left contexts (omega arith) (ap (λ l. (joined contexts A B).is_spent (naive (joined contexts A B) contexts l).state) at_log ∙ ap (λ (m : Moment (S ⊎ R)). (joined contexts A B).is_spent m.state) (naive-reader contexts A B kept.steps))

    own_ones : by contexts ((world_of_kept contexts kept).log contexts) ≡ map (own contexts) (map inr items)
    own_ones =
        ap (by contexts) (sym (append-nil ((world_of_kept contexts kept).log contexts)) ∙ ap (λ q. (world_of_kept contexts kept).log contexts ++ q) (sym reader_left))
        ∙ run.delivered.each contexts contexts ∙ sends-own (joined contexts A B) (map inr items) ((world_of_kept contexts kept).log contexts) (joined-quiet contexts A B)

    is-slot : (slot : ℕ) (c : SlotKept X C) → slice_get kept.slots slot ≡ Some c → slot ≡ contexts → ⊥
    is-slot slot c e i = let within = get-within kept.slots slot c e in let count = k.naive.count in omega arith

    by-sender : (slot : ℕ) (c : SlotKept X C) → (world_of_kept contexts kept).queue slot ≡ map lifted c.left → IsBySender contexts c.left
    by-sender slot c queue =
        let left : ◌≡◌ {A = List (Entry (C ⊎ I))} (map lifted c.left) (ordered (suc contexts) (w.queue slot)) = sym queue ∙ k.lefts slot in
        lifted-all c.left (ordered (suc contexts) c.left) (left ∙ sym (ordered-twice (suc contexts) (w.queue slot)) ∙ ap (ordered (suc contexts)) (sym left) ∙ ordered-lifted (suc contexts) c.left)

    ended : (slot : ℕ) (o : Option (SlotKept X C)) → slice_get kept.slots slot ≡ o → IfSome o (IsSlotEnded contexts A slot)
    ended slot None e = tt
    ended slot (Some c) e =
        let other = is-slot slot c e in
        let log : (world_of_kept contexts kept).log slot ≡ map lifted (log_of c) = log-slot contexts kept slot other ∙ ap slot_log e in
        let queue : (world_of_kept contexts kept).queue slot ≡ map lifted c.left = queue-slot contexts kept slot other ∙ ap slot_left e in
        let within = get-within kept.slots slot c e in
        let count = k.naive.count in
        let P : Option (SlotKept X C) → Type 0 = λ o. IfSome o (IsNaive A shows slot) in
        let tells : IsNaive A shows slot c = subst P e (k.naive.slots slot) in
        let U : List (Entry (C ⊎ I)) → Type 0 = IsUnspentAlong (joined contexts A B) (first (joined contexts A B) slot) in
        let state : (joined contexts A B).is_spent (naive (joined contexts A B) slot ((world_of_kept contexts kept).log slot)).state ≡ c.spent =
        ap (λ l. (joined contexts A B).is_spent (naive (joined contexts A B) slot l).state) log ∙ ap (λ (m : Moment (S ⊎ R)). (joined contexts A B).is_spent m.state) (naive-slot contexts A B slot (log_of c) other) ∙ sym tells.spent in
        record {
          unspent = unspent-slot contexts A B slot (log_of c) other (subst U log (run.unspent slot));
          by_sender = by-sender slot c queue;
          nothing_left = λ now. lifted-none c.left (sym queue ∙ run.nothing_left slot (omega arith) (state ∙ now));
        }

-- a faithful record is a faithful run
pub faithful-run : {S R X C I : Type 0} (contexts : ℕ) (A : Slots S C) (B : Reader R C I) (shows : S → X) (items : List I) (kept : Kept X C I)
    → IsFaithful contexts A B shows items kept → IsFaithfulRun (joined contexts A B) (map inr items) (world_of_kept contexts kept)
faithful-run {S} {R} {X} {C} {I} contexts A B shows items kept h = record {
  delivered = h.delivered;
  unspent = λ d. unspent d (cases_eq d contexts);
  others = λ d lt. others d lt;
  boot = h.boot;
  nothing_left = λ d le now. left d now (cases_eq d contexts);
}
  where
    others : (d : ℕ) → contexts < d → (world_of_kept contexts kept).log d ≡ []
    others d lt =
        let count = h.naive.count in
        let other : d ≡ contexts → ⊥ = λ i. omega arith in
        log-slot contexts kept d other ∙ ap slot_log (slice_get_past kept.slots d (omega arith))

    at-slot : (d : ℕ) → (d ≡ contexts → ⊥) → (o : Option (SlotKept X C)) → slice_get kept.slots d ≡ o → IsUnspentAlong (joined contexts A B) (first (joined contexts A B) d) (slot_log o)
    at-slot d other None e = tt
    at-slot d other (Some c) e = let P : Option (SlotKept X C) → Type 0 = λ o. IfSome o (IsSlotEnded contexts A d) in let ended : IsSlotEnded contexts A d c = subst P e (h.ended d) in unspent-joined contexts A B d (log_of c) other ended.unspent

    unspent : (d : ℕ) → ((d ≡ contexts) ⊎ (d ≡ contexts → ⊥)) → IsUnspentAlong (joined contexts A B) (first (joined contexts A B) d) ((world_of_kept contexts kept).log d)
    unspent d (inl at) = rw at (unspent-reader contexts A B ((world_of_kept contexts kept).log contexts))
    unspent d (inr other) = rw (log-slot contexts kept d other) (at-slot d other (slice_get kept.slots d) refl)

    slot-left : (d : ℕ) → (d ≡ contexts → ⊥) → (o : Option (SlotKept X C)) → slice_get kept.slots d ≡ o → (joined contexts A B).is_spent (naive (joined contexts A B) d (slot_log o)).state ≡ false → ◌≡◌ {A = List (Entry (C ⊎ I))} (slot_left o) []
    slot-left d other None e now = refl
    slot-left d other (Some c) e now =
        let P : Option (SlotKept X C) → Type 0 = λ o. IfSome o (IsSlotEnded contexts A d) in
        let ended : IsSlotEnded contexts A d c = subst P e (h.ended d) in
        let Q : Option (SlotKept X C) → Type 0 = λ o. IfSome o (IsNaive A shows d) in
        let tells : IsNaive A shows d c = subst Q e (h.naive.slots d) in
        let state : c.spent ≡ false = tells.spent ∙ ap (λ (m : Moment (S ⊎ R)). (joined contexts A B).is_spent m.state) (sym (naive-slot contexts A B d (log_of c) other)) ∙ now in
        ap (map lifted) (ended.nothing_left state)

    left : (d : ℕ) → (joined contexts A B).is_spent (naive (joined contexts A B) d ((world_of_kept contexts kept).log d)).state ≡ false → ((d ≡ contexts) ⊎ (d ≡ contexts → ⊥)) → (world_of_kept contexts kept).queue d ≡ []
    left d now (inl at) = rw at (queue-reader contexts kept ∙ ap (map lifted) h.no_left)
    left d now (inr other) = queue-slot contexts kept d other ∙ slot-left d other (slice_get kept.slots d) refl (sym (ap (λ l. (joined contexts A B).is_spent (naive (joined contexts A B) d l).state) (log-slot contexts kept d other)) ∙ now)

-- what a schedule makes is faithful
pub scheduled-kept : {S R X C I : Type 0} (contexts : ℕ) (A : Slots S C) (B : Reader R C I) (shows : S → X) (items : List I) (picks : List (ℕ × Option ℕ)) (kept : Kept X C I)
    → IsScheduled contexts A B shows items picks kept → IsFaithful contexts A B shows items kept
scheduled-kept contexts A B shows items picks kept h =
    kept-faithful contexts A B shows items h.world kept h.is_kept (scheduled-faithful (joined contexts A B) (map inr items) picks h.world (joined-quiet contexts A B) h.scheduled)
