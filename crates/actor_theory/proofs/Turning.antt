-- The machine's turns: an actor handles its oldest entry, and the reader without one its next item.
use Rattle.std.proofs.Common.{◌≡◌, ◌+◌, ◌∷◌, ◌++◌, ◌⊎◌}
use Rattle.actor_theory.proofs.Common.{ℕ, List, [], Bool, true, false, cond, Some, refl, sym, ◌∙◌, ap, subst, arith, inr, map, slice_get, slice_set, eq-eqb, ne_eqb, AllByRecursion, Entry, number_after, own, first_from, head_sender, other_sender, turn_of, Slots, Reader, lifted, slots_only, Cell, ReaderCell, queue_at, world_of, Stand, cell_after, reader_after_entry, reader_after_item, delivered, Stepped}
use Rattle.actor_theory.specs.Joined.{joined}
use Rattle.actor_theory.proofs.Queues.{first_from-head, head_sender-lifted, other_sender-own, other_sender-lifted}
use Rattle.actor_theory.proofs.Cells.{is-slot}
use Rattle.actor_theory.proofs.Machining.{stepped-slot}
use Rattle.actor_theory.proofs.Reading.{stepped-entry, stepped-item, stepped-slot_none, stepped-slot_spent, stepped-entry_none, stepped-item_none, delivered-none}

-- whose entry an actor takes in its turn
pub turn-slot : {S R C I : Type 0} (contexts : ℕ) (A : Slots S C) (B : Reader R C I) (takes : Bool) (cells : List (Cell S C)) (reader : ReaderCell R C I) (queued : List (List (Entry C))) (d : ℕ) → (d ≡ contexts → ⊥)
    → turn_of (joined contexts A B) takes (world_of contexts cells reader queued) d ≡ (d, head_sender (contexts + 1) (queue_at queued d))
turn-slot {S} {R} {C} {I} contexts A B takes cells reader queued d other =
    let sender : head_sender (contexts + 1) (map (lifted {I = I}) (queue_at queued d)) ≡ head_sender (contexts + 1) (queue_at queued d) = head_sender-lifted I (contexts + 1) (queue_at queued d) in
    rw (ne_eqb d contexts other) (ap (λ (s : ℕ). (d, s)) sender)

pub turn-reader : {S R C I : Type 0} (contexts : ℕ) (A : Slots S C) (B : Reader R C I) (takes : Bool) (cells : List (Cell S C)) (reader : ReaderCell R C I) (queued : List (List (Entry C))) → Stand contexts A B cells reader queued
    → turn_of (joined contexts A B) takes (world_of contexts cells reader queued) contexts ≡ (contexts, head_sender (cond takes contexts (contexts + 1)) (queue_at queued contexts))
turn-reader {S} {R} {C} {I} contexts A B takes cells reader queued h =
    let otherwise : ℕ = cond takes contexts (contexts + 1) in
    let sender : other_sender contexts otherwise (map (own {C = C ⊎ I} contexts) (map inr reader.rest) ++ map lifted (queue_at queued contexts)) ≡ head_sender otherwise (queue_at queued contexts) =
    other_sender-own contexts otherwise (map inr reader.rest) (map lifted (queue_at queued contexts)) ∙ other_sender-lifted I contexts otherwise (queue_at queued contexts) h.from_others in
    rw (eq-eqb contexts contexts refl) (ap (λ (s : ℕ). (contexts, s)) sender)

-- a slot that isn't spent handles its oldest entry
pub turned-slot : {S R C I : Type 0} (contexts : ℕ) (A : Slots S C) (B : Reader R C I) (takes : Bool) (cells : List (Cell S C)) (reader : ReaderCell R C I) (queued : List (List (Entry C))) (d : ℕ) (c : Cell S C) (e : Entry C)
    (rest : List (Entry C)) → Stand contexts A B cells reader queued → slice_get cells d ≡ Some c → A.is_spent c.state ≡ false → queue_at queued d ≡ e ∷ rest
    → Stepped contexts A B cells reader queued (turn_of (joined contexts A B) takes (world_of contexts cells reader queued) d) (slice_set cells d (cell_after A c e)) reader
    (delivered d (number_after c.number e) (A.sent c.state (number_after c.number e) e) (slice_set queued d rest)) true
turned-slot contexts A B takes cells reader queued d c e rest h at alive queue =
    let lt = is-slot contexts A B cells reader queued d c h at in
    let other : d ≡ contexts → ⊥ = λ i. omega arith in
    let turn = turn-slot contexts A B takes cells reader queued d other ∙ ap (λ q. (d, head_sender (contexts + 1) q)) queue in
    let P : ℕ × ℕ → Type 0 = λ p. Stepped contexts A B cells reader queued p (slice_set cells d (cell_after A c e)) reader
    (delivered d (number_after c.number e) (A.sent c.state (number_after c.number e) e) (slice_set queued d rest)) true in
    subst P (sym turn) (stepped-slot contexts A B cells reader queued d e.sender c e rest h at alive (ap (first_from e.sender) queue ∙ first_from-head e rest))

-- where it sends nothing, only its own queue changes
pub turned-slot_silent : {S R C I : Type 0} (contexts : ℕ) (A : Slots S C) (B : Reader R C I) (takes : Bool) (cells : List (Cell S C)) (reader : ReaderCell R C I) (queued : List (List (Entry C))) (d : ℕ) (c : Cell S C) (e : Entry C)
    (rest : List (Entry C)) → Stand contexts A B cells reader queued → slice_get cells d ≡ Some c → A.is_spent c.state ≡ false → queue_at queued d ≡ e ∷ rest → A.sent c.state (number_after c.number e) e ≡ []
    → Stepped contexts A B cells reader queued (turn_of (joined contexts A B) takes (world_of contexts cells reader queued) d) (slice_set cells d (cell_after A c e)) reader (slice_set queued d rest) true
turned-slot_silent {S} {R} {C} {I} contexts A B takes cells reader queued d c e rest h at alive queue silent =
    let P : List (List (Entry C)) → Type 0 = λ qs. Stepped contexts A B cells reader queued (turn_of (joined contexts A B) takes (world_of contexts cells reader queued) d) (slice_set cells d (cell_after A c e)) reader qs true in
    let n : ℕ = number_after c.number e in
    let none : delivered d n (A.sent c.state n e) (slice_set queued d rest) ≡ slice_set queued d rest = ap (λ xs. delivered d n xs (slice_set queued d rest)) silent ∙ delivered-none d n (slice_set queued d rest) in
    subst P none (turned-slot contexts A B takes cells reader queued d c e rest h at alive queue)

pub turned-slot_empty : {S R C I : Type 0} (contexts : ℕ) (A : Slots S C) (B : Reader R C I) (takes : Bool) (cells : List (Cell S C)) (reader : ReaderCell R C I) (queued : List (List (Entry C))) (d : ℕ) (c : Cell S C)
    → Stand contexts A B cells reader queued → slice_get cells d ≡ Some c → queue_at queued d ≡ []
    → Stepped contexts A B cells reader queued (turn_of (joined contexts A B) takes (world_of contexts cells reader queued) d) cells reader queued false
turned-slot_empty contexts A B takes cells reader queued d c h at queue =
    let s : ℕ = (turn_of (joined contexts A B) takes (world_of contexts cells reader queued) d).1 in
    stepped-slot_none contexts A B cells reader queued d s c h at (ap (first_from s) queue)

pub turned-slot_spent : {S R C I : Type 0} (contexts : ℕ) (A : Slots S C) (B : Reader R C I) (takes : Bool) (cells : List (Cell S C)) (reader : ReaderCell R C I) (queued : List (List (Entry C))) (d : ℕ) (c : Cell S C)
    → Stand contexts A B cells reader queued → slice_get cells d ≡ Some c → A.is_spent c.state ≡ true
    → Stepped contexts A B cells reader queued (turn_of (joined contexts A B) takes (world_of contexts cells reader queued) d) cells reader queued false
turned-slot_spent contexts A B takes cells reader queued d c h at spent = stepped-slot_spent contexts A B cells reader queued d ((turn_of (joined contexts A B) takes (world_of contexts cells reader queued) d).1) c h at spent

-- the reader handles its oldest entry
pub turned-entry : {S R C I : Type 0} (contexts : ℕ) (A : Slots S C) (B : Reader R C I) (takes : Bool) (cells : List (Cell S C)) (reader : ReaderCell R C I) (queued : List (List (Entry C))) (e : Entry C) (rest : List (Entry C))
    → Stand contexts A B cells reader queued → queue_at queued contexts ≡ e ∷ rest
    → Stepped contexts A B cells reader queued (turn_of (joined contexts A B) takes (world_of contexts cells reader queued) contexts) cells (reader_after_entry B reader e) (slice_set queued contexts rest) true
turned-entry {S} {R} {C} {I} contexts A B takes cells reader queued e rest h queue =
    let turn = turn-reader contexts A B takes cells reader queued h ∙ ap (λ q. (contexts, head_sender (cond takes contexts (contexts + 1)) q)) queue in
    let Q : Entry C → Type 0 = λ x. x.sender ≡ contexts → ⊥ in
    let all : AllByRecursion Q (e ∷ rest) = subst {A = List (Entry C)} (AllByRecursion Q) queue h.from_others in
    let P : ℕ × ℕ → Type 0 = λ p. Stepped contexts A B cells reader queued p cells (reader_after_entry B reader e) (slice_set queued contexts rest) true in
    subst P (sym turn) (stepped-entry contexts A B cells reader queued e.sender e rest h all.0 (ap (first_from e.sender) queue ∙ first_from-head e rest))

-- without one it takes its next item, where it may
pub turned-item : {S R C I : Type 0} (contexts : ℕ) (A : Slots S C) (B : Reader R C I) (cells : List (Cell S C)) (reader : ReaderCell R C I) (queued : List (List (Entry C))) (i : I) (rest : List I)
    → Stand contexts A B cells reader queued → queue_at queued contexts ≡ [] → reader.rest ≡ i ∷ rest
    → Stepped contexts A B cells reader queued (turn_of (joined contexts A B) true (world_of contexts cells reader queued) contexts) cells (reader_after_item B reader i rest)
    (delivered contexts (1 + reader.number) (slots_only contexts (B.item_sent reader.state i)) queued) true
turned-item contexts A B cells reader queued i rest h queue next =
    let turn = turn-reader contexts A B true cells reader queued h ∙ ap (λ q. (contexts, head_sender contexts q)) queue in
    let P : ℕ × ℕ → Type 0 = λ p. Stepped contexts A B cells reader queued p cells (reader_after_item B reader i rest) (delivered contexts (1 + reader.number) (slots_only contexts (B.item_sent reader.state i)) queued) true in
    subst P (sym turn) (stepped-item contexts A B cells reader queued i rest h next)

pub turned-done : {S R C I : Type 0} (contexts : ℕ) (A : Slots S C) (B : Reader R C I) (cells : List (Cell S C)) (reader : ReaderCell R C I) (queued : List (List (Entry C)))
    → Stand contexts A B cells reader queued → queue_at queued contexts ≡ [] → reader.rest ≡ []
    → Stepped contexts A B cells reader queued (turn_of (joined contexts A B) true (world_of contexts cells reader queued) contexts) cells reader queued false
turned-done contexts A B cells reader queued h queue next =
    let turn = turn-reader contexts A B true cells reader queued h ∙ ap (λ q. (contexts, head_sender contexts q)) queue in
    let P : ℕ × ℕ → Type 0 = λ p. Stepped contexts A B cells reader queued p cells reader queued false in
    subst P (sym turn) (stepped-item_none contexts A B cells reader queued h next)

-- and else it waits
pub turned-wait : {S R C I : Type 0} (contexts : ℕ) (A : Slots S C) (B : Reader R C I) (cells : List (Cell S C)) (reader : ReaderCell R C I) (queued : List (List (Entry C)))
    → Stand contexts A B cells reader queued → queue_at queued contexts ≡ []
    → Stepped contexts A B cells reader queued (turn_of (joined contexts A B) false (world_of contexts cells reader queued) contexts) cells reader queued false
turned-wait contexts A B cells reader queued h queue =
    let turn = turn-reader contexts A B false cells reader queued h ∙ ap (λ q. (contexts, head_sender (contexts + 1) q)) queue in
    let other : contexts + 1 ≡ contexts → ⊥ = λ i. omega arith in
    let P : ℕ × ℕ → Type 0 = λ p. Stepped contexts A B cells reader queued p cells reader queued false in
    subst P (sym turn) (stepped-entry_none contexts A B cells reader queued (contexts + 1) h other (ap (first_from (contexts + 1)) queue))
