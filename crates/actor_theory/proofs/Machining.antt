-- The machine's steps are those of its world.
use Rattle.std.proofs.Common.{◌≡◌, ◌≤◌, ◌<◌, ◌∷◌, ◌++◌, ◌==◌, ◌⊎◌}
use Rattle.actor_theory.proofs.Common.{ℕ, suc, List, [], Bool, true, false, cond, Some, None, refl, sym, ◌∙◌, ap, subst, append_assoc, arith, inl, inr, map, length, slice_get, slice_set, IfSome, is_some, AllByRecursion, eqb-true, eqb-false, ne_eqb, cases_eq, map-append, Entry, Language, Sent, Moment, naive, number_after, reply, mail, World, first_from, finds, found, handled, Slots, Reader, lifted, to_actors, step_entry, Cell, ReaderCell, cell_log, queue_in, queue_at, own_items, world_of, IsCellOf, Stand, cell_after, delivered, Stepped}
use Rattle.actor_theory.specs.Joined.{joined}
use Rattle.actor_theory.specs.Kept.{entry_of}
use Rattle.actor_theory.proofs.Queues.{lifted_found, all-append, all-mail, get-set_same, get-set_other, length-set, length-arrived, delivered-at, delivered-lifted}
use Rattle.actor_theory.proofs.Cells.{cell-after, is-slot, cell-is, slot-log, slot-moment, finds-slot}
use mathlib.Core.Path.{fun_ext}

-- two worlds with the same logs and queues are the same
pub world-same : {C : Type 0} (v w : World C) → ((k : ℕ) → v.log k ≡ w.log k) → ((k : ℕ) → v.queue k ≡ w.queue k) → v ≡ w
world-same {C} v w logs queues =
    let made : (ℕ → List (Entry C)) → (ℕ → List (Entry C)) → World C = λ l q. record { log = l; queue = q } in
    ap (λ l. made l v.queue) (fun_ext logs) ∙ ap (made w.log) (fun_ext queues)

-- a world after a handling, by its parts
pub handled-is : {S C : Type 0} (L : Language S C) (v w : World C) (d : ℕ) (e : Entry C) (rest : List (Entry C)) → v.log d ≡ w.log d ++ e ∷ [] → ((k : ℕ) → (k ≡ d → ⊥) → v.log k ≡ w.log k)
    → ((k : ℕ) → v.queue k ≡ cond (k == d) rest (w.queue k) ++ reply L d k (naive L d (w.log d)) e) → v ≡ handled L w d e rest
handled-is {S} {C} L v w d e rest here there queues = world-same v (handled L w d e rest) (λ k. log k (k == d) refl) queues
  where
    log : (k : ℕ) (b : Bool) → (k == d) ≡ b → v.log k ≡ cond b (w.log d ++ e ∷ []) (w.log k)
    log k true i = let same : k ≡ d = eqb-true k d i in ap (λ (j : ℕ). v.log j) same ∙ here
    log k false i = there k (eqb-false k d i)

-- the queues after a handling at d, whose queue had become this
pub queue-is : {C I : Type 0} (contexts : ℕ) (items items' : List I) (d n : ℕ) (sent : List (Sent C)) (queued : List (List (Entry C))) (q : List (Entry C)) → length queued ≡ suc contexts → d ≤ contexts
    → ((k : ℕ) → (k ≡ d → ⊥) → ◌≡◌ {A = List (Entry (C ⊎ I))} (own_items contexts items' k) (own_items contexts items k)) → (k : ℕ)
    → ◌≡◌ {A = List (Entry (C ⊎ I))} (own_items contexts items' k ++ map lifted (queue_at (delivered d n sent (slice_set queued d q)) k))
    (cond (k == d) (own_items contexts items' d ++ map lifted q) (own_items contexts items k ++ map lifted (queue_at queued k)) ++ mail d n k (to_actors contexts sent))
queue-is {C} {I} contexts items items' d n sent queued q count le same k =
    let set : length (slice_set queued d q) ≡ suc contexts = length-set queued d q ∙ count in
    ap (λ (es : List (Entry (C ⊎ I))). own_items contexts items' k ++ es) (delivered-lifted contexts d n sent (slice_set queued d q) k set)
    ∙ sym (append_assoc (own_items contexts items' k) (map lifted (queue_at (slice_set queued d q) k)) (mail d n k (to_actors contexts sent))) ∙ ap (λ (es : List (Entry (C ⊎ I))). es ++ mail d n k (to_actors contexts sent)) (at (k == d) refl)
  where
    at : (b : Bool) → (k == d) ≡ b
        → ◌≡◌ {A = List (Entry (C ⊎ I))} (own_items contexts items' k ++ map lifted (queue_at (slice_set queued d q) k)) (cond b (own_items contexts items' d ++ map lifted q) (own_items contexts items k ++ map lifted (queue_at queued k)))
    at true i =
        let here : k ≡ d = eqb-true k d i in
        ap (λ j. own_items contexts items' j ++ map lifted (queue_at (slice_set queued d q) j)) here ∙ ap (λ o. own_items contexts items' d ++ map lifted (queue_in o)) (get-set_same queued d q (omega arith))
    at false i =
        let other = eqb-false k d i in
        ap (λ (es : List (Entry (C ⊎ I))). es ++ map lifted (queue_at (slice_set queued d q) k)) (same k other) ∙ ap (λ o. own_items contexts items k ++ map lifted (queue_in o)) (get-set_other queued d k q other)

-- a step that finds this, and one that finds nothing
pub stepped : {S R C I : Type 0} (contexts : ℕ) (A : Slots S C) (B : Reader R C I) (cells : List (Cell S C)) (reader : ReaderCell R C I) (queued : List (List (Entry C))) (d s : ℕ) (cells' : List (Cell S C)) (reader' : ReaderCell R C I)
    (queued' : List (List (Entry C))) (e : Entry (C ⊎ I)) (rest : List (Entry (C ⊎ I))) → Stand contexts A B cells' reader' queued' → finds (joined contexts A B) (world_of contexts cells reader queued) d s ≡ Some (e, rest)
    → world_of contexts cells' reader' queued' ≡ handled (joined contexts A B) (world_of contexts cells reader queued) d e rest → Stepped contexts A B cells reader queued (d, s) cells' reader' queued' true
stepped contexts A B cells reader queued d s cells' reader' queued' e rest stand finds_is is = record {
  stand = stand;
  world = is ∙ sym (ap (found (joined contexts A B) (world_of contexts cells reader queued) d) finds_is);
  found_is = sym (ap is_some finds_is);
}

pub stepped-none : {S R C I : Type 0} (contexts : ℕ) (A : Slots S C) (B : Reader R C I) (cells : List (Cell S C)) (reader : ReaderCell R C I) (queued : List (List (Entry C))) (d s : ℕ) → Stand contexts A B cells reader queued
    → finds (joined contexts A B) (world_of contexts cells reader queued) d s ≡ None → Stepped contexts A B cells reader queued (d, s) cells reader queued false
stepped-none contexts A B cells reader queued d s stand none = record {
  stand = stand;
  world = sym (ap (found (joined contexts A B) (world_of contexts cells reader queued) d) none);
  found_is = sym (ap is_some none);
}

-- what a slot stands at after it has handled the oldest entry of s
slot-stand : {S R C I : Type 0} (contexts : ℕ) (A : Slots S C) (B : Reader R C I) (cells : List (Cell S C)) (reader : ReaderCell R C I) (queued : List (List (Entry C))) (d n : ℕ) (c : Cell S C) (e : Entry C) (sent : List (Sent C))
    (rest : List (Entry C)) → Stand contexts A B cells reader queued → slice_get cells d ≡ Some c → Stand contexts A B (slice_set cells d (cell_after A c e)) reader (delivered d n sent (slice_set queued d rest))
slot-stand {S} {R} {C} {I} contexts A B cells reader queued d n c e sent rest h at =
    let lt = is-slot contexts A B cells reader queued d c h at in
    let cells_count = h.cells_count in
    let queues_count = h.queues_count in
    let set : length (slice_set queued d rest) ≡ suc contexts = length-set queued d rest ∙ queues_count in
    let P : Entry C → Type 0 = λ x. x.sender ≡ contexts → ⊥ in
    let other : contexts ≡ d → ⊥ = λ i. omega arith in
    let queue : queue_at (delivered d n sent (slice_set queued d rest)) contexts ≡ queue_at queued contexts ++ mail d n contexts sent =
    delivered-at d n sent (slice_set queued d rest) contexts (omega arith) ∙ ap (λ o. queue_in o ++ mail d n contexts sent) (get-set_other queued d contexts rest other) in
    record {
      cells_count = length-set cells d (cell_after A c e) ∙ cells_count;
      queues_count = length-arrived d n sent 0 (slice_set queued d rest) ∙ set;
      cells_are = λ k. cell k (cases_eq k d) (omega arith);
      reader_is = h.reader_is;
      from_others =
          subst {A = List (Entry C)} (AllByRecursion P) (sym queue) (all-append P (queue_at queued contexts) (mail d n contexts sent) h.from_others (all-mail P d n contexts sent (λ x i. other (sym i))));
    }
  where
    cell : (k : ℕ) → ((k ≡ d) ⊎ (k ≡ d → ⊥)) → d < length cells → IfSome (slice_get (slice_set cells d (cell_after A c e)) k) (IsCellOf A k)
    cell k (inl same) lt = rw (same, get-set_same cells d (cell_after A c e) lt) (cell-after A d c e (cell-is contexts A B cells reader queued d c h at))
    cell k (inr other) lt = rw (get-set_other cells d k (cell_after A c e) other) (h.cells_are k)

-- a slot handles the oldest entry of s
pub stepped-slot : {S R C I : Type 0} (contexts : ℕ) (A : Slots S C) (B : Reader R C I) (cells : List (Cell S C)) (reader : ReaderCell R C I) (queued : List (List (Entry C))) (d s : ℕ) (c : Cell S C) (e : Entry C) (rest : List (Entry C))
    → Stand contexts A B cells reader queued → slice_get cells d ≡ Some c → A.is_spent c.state ≡ false → first_from s (queue_at queued d) ≡ Some (e, rest)
    → Stepped contexts A B cells reader queued (d, s) (slice_set cells d (cell_after A c e)) reader (delivered d (number_after c.number e) (A.sent c.state (number_after c.number e) e) (slice_set queued d rest)) true
stepped-slot {S} {R} {C} {I} contexts A B cells reader queued d s c e rest h at alive taken =
    stepped contexts A B cells reader queued d s cells' reader queued' (lifted e) rest' (slot-stand contexts A B cells reader queued d n c e sent rest h at) found_is
    (handled-is (joined contexts A B) (world_of contexts cells' reader queued') w d (lifted e) rest' log (λ k not_d. ap (λ o. cond (k == contexts) (map (step_entry contexts) reader.steps) (cell_log o)) (get-set_other cells d k (cell_after A c e) not_d)) queue)
  where
    n : ℕ
    n = number_after c.number e

    sent : List (Sent C)
    sent = A.sent c.state n e

    cells' : List (Cell S C)
    cells' = slice_set cells d (cell_after A c e)

    queued' : List (List (Entry C))
    queued' = delivered d n sent (slice_set queued d rest)

    w : World (C ⊎ I)
    w = world_of contexts cells reader queued

    rest' : List (Entry (C ⊎ I))
    rest' = own_items contexts reader.rest d ++ map lifted rest

    lt : d < contexts
    lt = is-slot contexts A B cells reader queued d c h at

    other : d ≡ contexts → ⊥
    other i = omega (arith, lt)

    no-items : ◌≡◌ {A = List (Entry (C ⊎ I))} (own_items contexts reader.rest d) []
    no-items = rw (ne_eqb d contexts other) refl

    found_is : finds (joined contexts A B) w d s ≡ Some (lifted e, rest')
    found_is =
        finds-slot contexts A B cells reader queued d s c h at ∙ ap (λ b. cond b None (lifted_found (first_from s (queue_at queued d)))) alive ∙ ap lifted_found taken
        ∙ ap (λ (es : List (Entry (C ⊎ I))). Some (lifted e, es ++ map lifted rest)) (sym no-items)

    within : d < length cells
    within = let count = h.cells_count in omega (arith, lt)

    log : (world_of contexts cells' reader queued').log d ≡ w.log d ++ lifted e ∷ []
    log =
        slot-log contexts cells' reader queued' d (cell_after A c e) other (get-set_same cells d (cell_after A c e) within)
        ∙ ap (map lifted) (map-append entry_of c.log ((record { entry = e; number = n }) ∷ [])) ∙ map-append lifted (map entry_of c.log) (e ∷ []) ∙ ap (λ (es : List (Entry (C ⊎ I))). es ++ lifted e ∷ []) (sym (slot-log contexts cells reader queued d c other at))

    queue : (k : ℕ) → (world_of contexts cells' reader queued').queue k ≡ cond (k == d) rest' (w.queue k) ++ reply (joined contexts A B) d k (naive (joined contexts A B) d (w.log d)) (lifted e)
    queue k =
        queue-is contexts reader.rest reader.rest d n sent queued rest h.queues_count (omega (arith, lt)) (λ j not_d. refl) k
        ∙ ap (λ (m : Moment (S ⊎ R)). cond (k == d) rest' (w.queue k) ++ reply (joined contexts A B) d k m (lifted e)) (sym (slot-moment contexts A B cells reader queued d c h at))
