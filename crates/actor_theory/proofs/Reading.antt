-- The reader's steps of the machine, and steps that find nothing.
use Rattle.std.proofs.Common.{◌≡◌, ◌+◌, ◌<◌, ◌∷◌, ◌++◌, ◌==◌, ◌⊎◌}
use Rattle.actor_theory.proofs.Common.{ℕ, zero, suc, max, List, [], Bool, true, false, nat_lt, cond, Option, Some, None, refl, sym, ◌∙◌, ap, subst, append-nil, arith, inr, map, length, slice_get, slice_set, AllByRecursion, eq-eqb, ne_eqb, ltb-true, map-append, Entry, Item, Sent, Moment, naive, number_after, reply, mail, World, own, first_from, finds, Slots, Reader, lifted, to_slots, slots_only, step_entry, Cell, ReaderCell, queue_in, queue_at, own_items, world_of, Stand, reader_after_entry, reader_after_item, arrived, delivered, Stepped}
use Rattle.actor_theory.specs.declared.entry.ReaderStep.TheVariants.{Entry as Taken}
use Rattle.actor_theory.specs.Joined.{joined}
use Rattle.actor_theory.proofs.Joining.{mail-filter_none}
use Rattle.actor_theory.proofs.Queues.{lifted_found, first_from-lifted, behind, first_from-own, first_from-nobody, all-rest, get-set_same, length-set, length-arrived, delivered-at, slots-actors}
use Rattle.actor_theory.proofs.Cells.{reader-entry, reader-item, reader-log, reader-moment, finds-slot, finds-reader}
use Rattle.actor_theory.proofs.Machining.{handled-is, queue-is, stepped, stepped-none}

-- nothing sent, and a queue set to what it was
arrived-none : {C : Type 0} (s n j : ℕ) (qs : List (List (Entry C))) → arrived s n [] j qs ≡ qs
arrived-none s n j [] = refl
arrived-none s n j (q ∷ qs) = ap (λ x. x ∷ arrived s n [] (suc j) qs) (append-nil q) ∙ ap (λ xs. q ∷ xs) (arrived-none s n (suc j) qs)

-- so where nothing is sent all queues stay
pub delivered-none : {C : Type 0} (s n : ℕ) (qs : List (List (Entry C))) → delivered s n [] qs ≡ qs
delivered-none s n qs = arrived-none s n 0 qs

pub set-queue : {C : Type 0} (qs : List (List (Entry C))) (d : ℕ) → slice_set qs d (queue_at qs d) ≡ qs
set-queue [] d = refl
set-queue (q ∷ qs) zero = refl
set-queue (q ∷ qs) (suc d) = ap (λ xs. q ∷ xs) (set-queue qs d)

-- the reader sends itself nothing
pub mail-none : {C : Type 0} (contexts n : ℕ) (sent : List (Sent C)) → mail contexts n contexts (slots_only contexts sent) ≡ []
mail-none contexts n sent = mail-filter_none (λ x. nat_lt x.target contexts) contexts n contexts sent (λ x at. no x.target at (nat_lt x.target contexts) refl)
  where
    no : (t : ℕ) → t ≡ contexts → (b : Bool) → nat_lt t contexts ≡ b → b ≡ false
    no t at true e = let lt = ltb-true t contexts e in absurd (omega arith)
    no t at false e = refl

items-here : {C I : Type 0} (contexts : ℕ) (rest : List I) → ◌≡◌ {A = List (Entry (C ⊎ I))} (own_items contexts rest contexts) (map (own contexts) (map inr rest))
items-here contexts rest = rw (eq-eqb contexts contexts refl) refl

items-other : {C I : Type 0} (contexts : ℕ) (rest more : List I) (k : ℕ) → (k ≡ contexts → ⊥) → ◌≡◌ {A = List (Entry (C ⊎ I))} (own_items contexts rest k) (own_items contexts more k)
items-other contexts rest more k other = rw (ne_eqb k contexts other) refl

-- the reader handles the oldest entry of another actor
pub stepped-entry : {S R C I : Type 0} (contexts : ℕ) (A : Slots S C) (B : Reader R C I) (cells : List (Cell S C)) (reader : ReaderCell R C I) (queued : List (List (Entry C))) (s : ℕ) (e : Entry C) (rest : List (Entry C))
    → Stand contexts A B cells reader queued → (s ≡ contexts → ⊥) → first_from s (queue_at queued contexts) ≡ Some (e, rest)
    → Stepped contexts A B cells reader queued (contexts, s) cells (reader_after_entry B reader e) (slice_set queued contexts rest) true
stepped-entry {S} {R} {C} {I} contexts A B cells reader queued s e rest h other taken =
    stepped contexts A B cells reader queued contexts s cells reader' queued' (lifted e) rest' stand found_is
    (handled-is (joined contexts A B) (world_of contexts cells reader' queued') w contexts (lifted e) rest' log (λ k not_reader. rw (ne_eqb k contexts not_reader) refl) queue)
  where
    n : ℕ
    n = number_after reader.number e

    reader' : ReaderCell R C I
    reader' = reader_after_entry B reader e

    queued' : List (List (Entry C))
    queued' = slice_set queued contexts rest

    w : World (C ⊎ I)
    w = world_of contexts cells reader queued

    rest' : List (Entry (C ⊎ I))
    rest' = own_items contexts reader.rest contexts ++ map lifted rest

    found_is : finds (joined contexts A B) w contexts s ≡ Some (lifted e, rest')
    found_is =
        finds-reader contexts A B cells reader queued s h ∙ first_from-own contexts s (map inr reader.rest) (map lifted (queue_at queued contexts)) other
        ∙ ap (behind (map (own contexts) (map inr reader.rest))) (first_from-lifted s (queue_at queued contexts) ∙ ap lifted_found taken)
        ∙ ap (λ (es : List (Entry (C ⊎ I))). Some (lifted e, es ++ map lifted rest)) (sym (items-here contexts reader.rest))

    within : contexts < length queued
    within = let count = h.queues_count in omega arith

    stand : Stand contexts A B cells reader' queued'
    stand = record {
      cells_count = h.cells_count;
      queues_count = length-set queued contexts rest ∙ h.queues_count;
      cells_are = h.cells_are;
      reader_is = reader-entry contexts B reader e h.reader_is;
      from_others =
          let P : Entry C → Type 0 = λ x. x.sender ≡ contexts → ⊥ in
          let here : queue_at queued' contexts ≡ rest = ap queue_in (get-set_same queued contexts rest within) in
          subst {A = List (Entry C)} (AllByRecursion P) (sym here) (all-rest P s (queue_at queued contexts) e rest taken h.from_others);
    }

    log : (world_of contexts cells reader' queued').log contexts ≡ w.log contexts ++ lifted e ∷ []
    log =
        reader-log contexts cells reader' queued' ∙ map-append (step_entry contexts) reader.steps (Taken e n ∷ [])
        ∙ ap (λ (es : List (Entry (C ⊎ I))). es ++ lifted e ∷ []) (sym (reader-log contexts cells reader queued))

    queue : (k : ℕ) → (world_of contexts cells reader' queued').queue k ≡ cond (k == contexts) rest' (w.queue k) ++ reply (joined contexts A B) contexts k (naive (joined contexts A B) contexts (w.log contexts)) (lifted e)
    queue k =
        ap (λ qs. own_items contexts reader.rest k ++ map lifted (queue_at qs k)) (sym (arrived-none contexts n 0 queued'))
        ∙ queue-is contexts reader.rest reader.rest contexts n [] queued rest h.queues_count (omega arith) (λ j not_reader. refl) k
        ∙ ap (λ (m : Moment (S ⊎ R)). cond (k == contexts) rest' (w.queue k) ++ reply (joined contexts A B) contexts k m (lifted e)) (sym (reader-moment contexts A B cells reader queued h))

-- the reader takes its next item
pub stepped-item : {S R C I : Type 0} (contexts : ℕ) (A : Slots S C) (B : Reader R C I) (cells : List (Cell S C)) (reader : ReaderCell R C I) (queued : List (List (Entry C))) (i : I) (rest : List I)
    → Stand contexts A B cells reader queued → reader.rest ≡ i ∷ rest
    → Stepped contexts A B cells reader queued (contexts, contexts) cells (reader_after_item B reader i rest) (delivered contexts (1 + reader.number) (slots_only contexts (B.item_sent reader.state i)) queued) true
stepped-item {S} {R} {C} {I} contexts A B cells reader queued i rest h next =
    stepped contexts A B cells reader queued contexts contexts cells reader' queued' item rest' stand found_is
    (handled-is (joined contexts A B) (world_of contexts cells reader' queued') w contexts item rest' log (λ k not_reader. rw (ne_eqb k contexts not_reader) refl) queue)
  where
    n : ℕ
    n = 1 + reader.number

    sent : List (Sent C)
    sent = slots_only contexts (B.item_sent reader.state i)

    reader' : ReaderCell R C I
    reader' = reader_after_item B reader i rest

    queued' : List (List (Entry C))
    queued' = delivered contexts n sent queued

    w : World (C ⊎ I)
    w = world_of contexts cells reader queued

    item : Entry (C ⊎ I)
    item = own contexts (inr i)

    rest' : List (Entry (C ⊎ I))
    rest' = own_items contexts rest contexts ++ map lifted (queue_at queued contexts)

    found_is : finds (joined contexts A B) w contexts contexts ≡ Some (item, rest')
    found_is =
        finds-reader contexts A B cells reader queued contexts h ∙ ap (λ is. first_from contexts (map (own contexts) (map inr is) ++ map lifted (queue_at queued contexts))) next ∙ first
        ∙ ap (λ (es : List (Entry (C ⊎ I))). Some (item, es ++ map lifted (queue_at queued contexts))) (sym (items-here contexts rest))
      where
        first : first_from contexts (map (own contexts) (map inr (i ∷ rest)) ++ map lifted (queue_at queued contexts)) ≡ Some (item, map (own contexts) (map inr rest) ++ map lifted (queue_at queued contexts))
        first = rw (eq-eqb contexts contexts refl) refl

    within : contexts < length queued
    within = let count = h.queues_count in omega arith

    stand : Stand contexts A B cells reader' queued'
    stand = record {
      cells_count = h.cells_count;
      queues_count = length-arrived contexts n sent 0 queued ∙ h.queues_count;
      cells_are = h.cells_are;
      reader_is = reader-item contexts B reader i rest h.reader_is;
      from_others =
          let P : Entry C → Type 0 = λ x. x.sender ≡ contexts → ⊥ in
          let here : queue_at queued' contexts ≡ queue_at queued contexts = delivered-at contexts n sent queued contexts within ∙ ap (λ es. queue_at queued contexts ++ es) (mail-none contexts n (B.item_sent reader.state i)) ∙ append-nil (queue_at queued contexts) in
          subst {A = List (Entry C)} (AllByRecursion P) (sym here) h.from_others;
    }

    log : (world_of contexts cells reader' queued').log contexts ≡ w.log contexts ++ item ∷ []
    log =
        reader-log contexts cells reader' queued' ∙ map-append (step_entry contexts) reader.steps (Item i n ∷ [])
        ∙ ap (λ (es : List (Entry (C ⊎ I))). es ++ item ∷ []) (sym (reader-log contexts cells reader queued))

    number : n ≡ 1 + max reader.number 0
    number = omega arith

    queue : (k : ℕ) → (world_of contexts cells reader' queued').queue k ≡ cond (k == contexts) rest' (w.queue k) ++ reply (joined contexts A B) contexts k (naive (joined contexts A B) contexts (w.log contexts)) item
    queue k =
        ap (λ qs. own_items contexts rest k ++ map lifted (queue_at (delivered contexts n sent qs) k)) (sym (set-queue queued contexts))
        ∙ queue-is contexts reader.rest rest contexts n sent queued (queue_at queued contexts) h.queues_count (omega arith) (λ j not_reader. items-other contexts rest reader.rest j not_reader) k
        ∙ ap (λ xs. cond (k == contexts) rest' (w.queue k) ++ mail contexts n k xs) (slots-actors contexts (B.item_sent reader.state i))
        ∙ ap (λ m. cond (k == contexts) rest' (w.queue k) ++ mail contexts m k (to_slots contexts (B.item_sent reader.state i))) number
        ∙ ap (λ (m : Moment (S ⊎ R)). cond (k == contexts) rest' (w.queue k) ++ reply (joined contexts A B) contexts k m item) (sym (reader-moment contexts A B cells reader queued h))

-- steps that find nothing
pub stepped-slot_none : {S R C I : Type 0} (contexts : ℕ) (A : Slots S C) (B : Reader R C I) (cells : List (Cell S C)) (reader : ReaderCell R C I) (queued : List (List (Entry C))) (d s : ℕ) (c : Cell S C)
    → Stand contexts A B cells reader queued → slice_get cells d ≡ Some c → first_from s (queue_at queued d) ≡ None → Stepped contexts A B cells reader queued (d, s) cells reader queued false
stepped-slot_none {S} {R} {C} {I} contexts A B cells reader queued d s c h at none =
    stepped-none contexts A B cells reader queued d s h (finds-slot contexts A B cells reader queued d s c h at ∙ ap (λ o. cond (A.is_spent c.state) None (lifted_found {I = I} o)) none ∙ both (A.is_spent c.state))
  where
    both : (b : Bool) → ◌≡◌ {A = Option (Entry (C ⊎ I) × List (Entry (C ⊎ I)))} (cond b None None) None
    both true = refl
    both false = refl

pub stepped-slot_spent : {S R C I : Type 0} (contexts : ℕ) (A : Slots S C) (B : Reader R C I) (cells : List (Cell S C)) (reader : ReaderCell R C I) (queued : List (List (Entry C))) (d s : ℕ) (c : Cell S C)
    → Stand contexts A B cells reader queued → slice_get cells d ≡ Some c → A.is_spent c.state ≡ true → Stepped contexts A B cells reader queued (d, s) cells reader queued false
stepped-slot_spent {S} {R} {C} {I} contexts A B cells reader queued d s c h at spent =
    stepped-none contexts A B cells reader queued d s h (finds-slot contexts A B cells reader queued d s c h at ∙ ap (λ b. cond b None (lifted_found {I = I} (first_from s (queue_at queued d)))) spent)

pub stepped-entry_none : {S R C I : Type 0} (contexts : ℕ) (A : Slots S C) (B : Reader R C I) (cells : List (Cell S C)) (reader : ReaderCell R C I) (queued : List (List (Entry C))) (s : ℕ)
    → Stand contexts A B cells reader queued → (s ≡ contexts → ⊥) → first_from s (queue_at queued contexts) ≡ None → Stepped contexts A B cells reader queued (contexts, s) cells reader queued false
stepped-entry_none {S} {R} {C} {I} contexts A B cells reader queued s h other none =
    stepped-none contexts A B cells reader queued contexts s h
    (finds-reader contexts A B cells reader queued s h ∙ first_from-own contexts s (map inr reader.rest) (map lifted (queue_at queued contexts)) other
    ∙ ap (behind (map (own contexts) (map inr reader.rest))) (first_from-lifted s (queue_at queued contexts) ∙ ap lifted_found none))

pub stepped-item_none : {S R C I : Type 0} (contexts : ℕ) (A : Slots S C) (B : Reader R C I) (cells : List (Cell S C)) (reader : ReaderCell R C I) (queued : List (List (Entry C)))
    → Stand contexts A B cells reader queued → reader.rest ≡ [] → Stepped contexts A B cells reader queued (contexts, contexts) cells reader queued false
stepped-item_none {S} {R} {C} {I} contexts A B cells reader queued h next =
    stepped-none contexts A B cells reader queued contexts contexts h
    (finds-reader contexts A B cells reader queued contexts h ∙ ap (λ is. first_from contexts (map (own contexts) (map inr is) ++ map lifted (queue_at queued contexts))) next
    ∙ first_from-lifted contexts (queue_at queued contexts) ∙ ap lifted_found (first_from-nobody contexts (queue_at queued contexts) h.from_others))
