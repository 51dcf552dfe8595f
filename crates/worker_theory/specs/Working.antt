-- Workers that run beside each other, each over a cell or the reader with its outboxes: what one of them has done, and what all have done together.
use Rattle.std.specs.Prelude.{◌≡◌, ℕ, zero, suc, ◌+◌, ◌<◌, ◌≤◌, List, [], ◌∷◌, ◌++◌, length, map, false, ◌==◌, if◌then◌else◌, Option, Some, None, slice_get, slice_set, ◌⊎◌}
use Rattle.std.proofs.Common.{inl, inr}
use Rattle.actor_theory.specs.declared.entry.Entry.{Entry}
use Rattle.actor_theory.specs.Language.{number_after, mail, by}
use Rattle.actor_theory.specs.Joined.{Slots, Reader, joined, lifted}
use Rattle.actor_theory.specs.Machine.{Cell, ReaderCell, Stand, cell_after, delivered, queue_at, reader_after_entry, reader_after_item, world_of, empty_queues, fresh_reader}
use Rattle.actor_theory.specs.World.{own}
use Rattle.actor_theory.specs.Holds.{Holds}

-- a cell, with what it has sent and not yet posted to each actor
pub record Sender (S C : Type 0) : Type 0 where
  pub cell : Cell S C
  pub boxes : List (List (Entry C))

-- a reader, with what it has sent and not yet posted to each slot
pub record Source (R C I : Type 0) : Type 0 where
  pub cell : ReaderCell R C I
  pub boxes : List (List (Entry C))

-- a slot has handled an entry, and keeps what it sends
abbrev pub sender_after : {S C : Type 0} → Slots S C → ℕ → Sender S C → Entry C → Sender S C
sender_after A slot x e = record {
  cell = cell_after A x.cell e;
  boxes = delivered slot (number_after x.cell.number e) (A.sent x.cell.state (number_after x.cell.number e) e) x.boxes;
}

-- the reader has taken an item, before these, and keeps what it sends
abbrev pub source_after_item : {R C I : Type 0} → Reader R C I → ℕ → Source R C I → I → List I → Source R C I
source_after_item B contexts x i rest = record {
  cell = reader_after_item B x.cell i rest;
  boxes = delivered contexts (1 + x.cell.number) (B.item_sent x.cell.state i) x.boxes;
}

-- the reader has handled an entry, and sends nothing
abbrev pub source_after_entry : {R C I : Type 0} → Reader R C I → Source R C I → Entry C → Source R C I
source_after_entry B x e = record { cell = reader_after_entry B x.cell e; boxes = x.boxes }

-- one more entry in the box of a target
abbrev pub put : {C : Type 0} → ℕ → Entry C → List (List (Entry C)) → List (List (Entry C))
put target e boxes = slice_set boxes target (queue_at boxes target ++ e ∷ [])

-- a cell that has handled these
abbrev pub after_these : {S C : Type 0} → Slots S C → Cell S C → List (Entry C) → Cell S C
after_these A c [] = c
after_these A c (e ∷ es) = after_these A (cell_after A c e) es

-- what it has sent to k meanwhile
abbrev pub cell_replies : {S C : Type 0} → Slots S C → ℕ → ℕ → Cell S C → List (Entry C) → List (Entry C)
cell_replies A slot k c [] = []
cell_replies A slot k c (e ∷ es) = mail slot (number_after c.number e) k (A.sent c.state (number_after c.number e) e) ++ cell_replies A slot k (cell_after A c e) es

-- it wasn't spent before any of them
abbrev pub IsUnspentCell : {S C : Type 0} → Slots S C → Cell S C → List (Entry C) → Type 0
IsUnspentCell A c [] = Unit {0}
IsUnspentCell A c (e ∷ es) = (A.is_spent c.state ≡ false) × IsUnspentCell A (cell_after A c e) es

-- the part of a slot's worker: from a cell and what was put into its hands it has come to another, with what is left in its hands, what it got by mail, and what it posted to each actor
pub record SlotWorked {S C : Type 0} (A : Slots S C) (slot : ℕ) (from : Sender S C) (hand : List (Entry C)) (now : Sender S C) (left got : List (Entry C)) (posted : ℕ → List (Entry C)) : Type 0 where
  pub handled : List (Entry C)
  pub cell_is : now.cell ≡ after_these A from.cell handled
  pub unspent : IsUnspentCell A from.cell handled
  -- what was in its hands and then came by mail was handled, or is still in its hands
  pub taken : hand ++ got ≡ handled ++ left
  -- what was in an outbox and what the handlings sent was posted, or is still there
  pub sent : (k : ℕ) → k < length from.boxes → queue_at from.boxes k ++ cell_replies A slot k from.cell handled ≡ posted k ++ queue_at now.boxes k
  pub boxes : length now.boxes ≡ length from.boxes

-- what the reader does: it takes an item, or handles an entry
abbrev pub Act : Type 0 → Type 0 → Type 0
Act C I = I ⊎ Entry C

-- the first, if there is one
abbrev pub first_of : {X : Type 0} → List X → Option X
first_of [] = None
first_of (x ∷ xs) = Some x

-- all but the first
abbrev pub rest_of : {X : Type 0} → List X → List X
rest_of [] = []
rest_of (x ∷ xs) = xs

-- a reader that has done this
abbrev pub act_after : {R C I : Type 0} → Reader R C I → ReaderCell R C I → Act C I → ReaderCell R C I
act_after B r (inl i) = reader_after_item B r i (rest_of r.rest)
act_after B r (inr e) = reader_after_entry B r e

-- a reader that has done these
abbrev pub after_acts : {R C I : Type 0} → Reader R C I → ReaderCell R C I → List (Act C I) → ReaderCell R C I
after_acts B r [] = r
after_acts B r (a ∷ bs) = after_acts B (act_after B r a) bs

-- what an act sends to k
abbrev pub act_reply : {R C I : Type 0} → Reader R C I → ℕ → ℕ → ReaderCell R C I → Act C I → List (Entry C)
act_reply B contexts k r (inl i) = mail contexts (1 + r.number) k (B.item_sent r.state i)
act_reply B contexts k r (inr e) = []

-- what all of them send to k
abbrev pub acts_replies : {R C I : Type 0} → Reader R C I → ℕ → ℕ → ReaderCell R C I → List (Act C I) → List (Entry C)
acts_replies B contexts k r [] = []
acts_replies B contexts k r (a ∷ bs) = act_reply B contexts k r a ++ acts_replies B contexts k (act_after B r a) bs

-- the items among them
abbrev pub acts_items : {C I : Type 0} → List (Act C I) → List I
acts_items [] = []
acts_items (inl i ∷ bs) = i ∷ acts_items bs
acts_items (inr e ∷ bs) = acts_items bs

-- the entries among them
abbrev pub acts_entries : {C I : Type 0} → List (Act C I) → List (Entry C)
acts_entries [] = []
acts_entries (inl i ∷ bs) = acts_entries bs
acts_entries (inr e ∷ bs) = e ∷ acts_entries bs

-- an act, as an entry
abbrev pub act_entry : {C I : Type 0} → ℕ → Act C I → Entry (C ⊎ I)
act_entry contexts (inl i) = own contexts (inr i)
act_entry contexts (inr e) = lifted e

-- the part of the reader's worker: from the reader, its items and what was put into its hands it has come to another, with what is left, what it got and what it posted in the same way
pub record SourceWorked {R C I : Type 0} (B : Reader R C I) (contexts : ℕ) (from : Source R C I) (hand : List (Entry C)) (now : Source R C I) (left got : List (Entry C)) (posted : ℕ → List (Entry C)) : Type 0 where
  pub acts : List (Act C I)
  pub cell_is : now.cell ≡ after_acts B from.cell acts
  -- the items that it took are the first of those that were to come
  pub items : from.cell.rest ≡ acts_items acts ++ now.cell.rest
  pub taken : hand ++ got ≡ acts_entries acts ++ left
  pub sent : (k : ℕ) → k < length from.boxes → queue_at from.boxes k ++ acts_replies B contexts k from.cell acts ≡ posted k ++ queue_at now.boxes k
  pub boxes : length now.boxes ≡ length from.boxes

-- a slot's cell
abbrev pub cell_of : {S C : Type 0} → Sender S C → Cell S C
cell_of x = x.cell

-- what a slot keeps for k, if there is such a slot
abbrev pub box_of : {S C : Type 0} → Option (Sender S C) → ℕ → List (Entry C)
box_of None k = []
box_of (Some x) k = queue_at x.boxes k

-- what s keeps for d
abbrev pub outbox_of : {S R C I : Type 0} → ℕ → List (Sender S C) → Source R C I → ℕ → ℕ → List (Entry (C ⊎ I))
outbox_of contexts senders source s d = map lifted (if s == contexts then queue_at source.boxes d else box_of (slice_get senders s) d)

-- parts and queues between which everything that was sent is somewhere, once and in order
pub record IsHolding {S R C I : Type 0} (contexts : ℕ) (A : Slots S C) (B : Reader R C I) (items : List I) (senders : List (Sender S C)) (source : Source R C I) (queued : List (List (Entry C))) : Type 0 where
  pub stand : Stand contexts A B (map cell_of senders) source.cell queued
  pub boxes : (k : ℕ) (x : Sender S C) → slice_get senders k ≡ Some x → length x.boxes ≡ suc contexts
  pub source_boxes : length source.boxes ≡ contexts
  pub holds : Holds (joined contexts A B) (map inr items) (world_of contexts (map cell_of senders) source.cell queued) (outbox_of contexts senders source)

-- what all workers did, and what was left in the mailboxes: for each actor what is left in its hands, what it got by mail, and the rest; for each two what the first posted to the second
pub record Gathered {S R C I : Type 0} (contexts : ℕ) (A : Slots S C) (B : Reader R C I) (senders : List (Sender S C)) (source : Source R C I) (queued : List (List (Entry C)))
    (senders' : List (Sender S C)) (source' : Source R C I) (queued' : List (List (Entry C))) : Type 0 where
  pub left : ℕ → List (Entry C)
  pub got : ℕ → List (Entry C)
  pub rest : ℕ → List (Entry C)
  pub posted : ℕ → ℕ → List (Entry C)
  pub slots : (d : ℕ) (x y : Sender S C) → slice_get senders d ≡ Some x → slice_get senders' d ≡ Some y → SlotWorked A d x (queue_at queued d) y (left d) (got d) (posted d)
  pub reader : SourceWorked B contexts source (queue_at queued contexts) source' (left contexts) (got contexts) (posted contexts)
  pub slots_count : length senders' ≡ length senders
  pub queues_count : length queued' ≡ length queued
  pub queues : (d : ℕ) → d ≤ contexts → queue_at queued' d ≡ left d ++ rest d
  -- the mailbox of d gave and holds of each sender what it posted there
  pub mail : (s d : ℕ) → d ≤ contexts → by s (got d ++ rest d) ≡ posted s d
  -- only actors post, and to actors, and the reader nothing to itself
  pub nobody : (s d : ℕ) → contexts < s → posted s d ≡ []
  pub nowhere : (s d : ℕ) → contexts < d → posted s d ≡ []
  pub own_none : posted contexts contexts ≡ []

-- posted entries, among those that carry a cargo or an item
abbrev pub lifted_posts : {C I : Type 0} → (ℕ → ℕ → List (Entry C)) → ℕ → ℕ → List (Entry (C ⊎ I))
lifted_posts posted s d = map lifted (posted s d)

-- cells that have handled and sent nothing, of the slots below n
abbrev pub fresh_senders : {S C : Type 0} → Slots S C → ℕ → ℕ → List (Sender S C)
fresh_senders A contexts zero = []
fresh_senders A contexts (suc n) = fresh_senders A contexts n ++ (record { cell = record { state = A.start n; number = 0; log = [] }; boxes = empty_queues (suc contexts) }) ∷ []

-- a reader that has handled and sent nothing, with these items to come
abbrev pub fresh_source : {R C I : Type 0} → Reader R C I → ℕ → List I → Source R C I
fresh_source B contexts items = record { cell = fresh_reader B items; boxes = empty_queues contexts }
