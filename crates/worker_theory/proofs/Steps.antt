-- Each step of a worker goes on with its work.
use Rattle.std.proofs.Common.{◌≡◌, ℕ, ◌+◌, ◌<◌, List, [], ◌∷◌, ◌++◌, false, refl, sym, ◌∙◌, ap, subst, append_assoc, append-nil, inl, inr, length}
use Rattle.actor_theory.specs.declared.entry.Entry.{Entry}
use Rattle.actor_theory.specs.Language.{number_after, mail}
use Rattle.actor_theory.specs.Joined.{Slots, Reader}
use Rattle.actor_theory.specs.Machine.{Cell, ReaderCell, cell_after, queue_at, reader_after_item}
use Rattle.actor_theory.proofs.Queues.{delivered-at, length-arrived}
use Rattle.worker_theory.specs.Working.{Sender, Source, sender_after, source_after_item, source_after_entry, SlotWorked, SourceWorked, act_after, after_these, cell_replies, IsUnspentCell, after_acts, acts_replies, acts_items, acts_entries, rest_of}
use Rattle.worker_theory.proofs.Along.{these-append, replies-append, unspent-append, acts-append, acts_replies-append, acts_items-append, acts_entries-append}

-- a slot has done nothing yet
pub slot-begins : {S C : Type 0} (A : Slots S C) (slot : ℕ) (x : Sender S C) (hand got : List (Entry C)) (posted : ℕ → List (Entry C)) → got ≡ [] → ((k : ℕ) → posted k ≡ []) → SlotWorked A slot x hand x hand got posted
slot-begins A slot x hand got posted none nothing = record {
  handled = [];
  cell_is = refl;
  unspent = tt;
  taken = ap (λ es. hand ++ es) none ∙ append-nil hand;
  sent = λ k lt. append-nil (queue_at x.boxes k) ∙ ap (λ es. es ++ queue_at x.boxes k) (sym (nothing k));
  boxes = refl;
}

-- what left an outbox of a slot was posted
pub slot-posts : {S C : Type 0} (A : Slots S C) (slot : ℕ) (from : Sender S C) (hand : List (Entry C)) (now now' : Sender S C) (left got : List (Entry C)) (posted posted' sent : ℕ → List (Entry C)) → now'.cell ≡ now.cell → length now'.boxes ≡ length now.boxes
    → ((k : ℕ) → queue_at now.boxes k ≡ sent k ++ queue_at now'.boxes k) → ((k : ℕ) → posted' k ≡ posted k ++ sent k) → SlotWorked A slot from hand now left got posted → SlotWorked A slot from hand now' left got posted'
slot-posts A slot from hand now now' left got posted posted' sent cell count box more h = record {
  handled = h.handled;
  cell_is = cell ∙ h.cell_is;
  unspent = h.unspent;
  taken = h.taken;
  sent = λ k lt. h.sent k lt ∙ ap (λ es. posted k ++ es) (box k) ∙ sym (append_assoc (posted k) (sent k) (queue_at now'.boxes k)) ∙ ap (λ es. es ++ queue_at now'.boxes k) (sym (more k));
  boxes = count ∙ h.boxes;
}

-- an entry from a slot's hands, or one that came by mail, was handled
pub slot-handles : {S C : Type 0} (A : Slots S C) (slot : ℕ) (from : Sender S C) (hand : List (Entry C)) (now now' : Sender S C) (left left' got got' : List (Entry C)) (posted : ℕ → List (Entry C)) (e : Entry C) (new : List (Entry C))
    → A.is_spent now.cell.state ≡ false → left ++ new ≡ e ∷ left' → got' ≡ got ++ new → now' ≡ sender_after A slot now e → SlotWorked A slot from hand now left got posted → SlotWorked A slot from hand now' left' got' posted
slot-handles {S} {C} A slot from hand now now' left left' got got' posted e new live next came is h = record {
  handled = h.handled ++ e ∷ [];
  cell_is = ap (λ (x : Sender S C). x.cell) is ∙ ap (λ (c : Cell S C). cell_after A c e) h.cell_is ∙ sym (these-append A from.cell h.handled (e ∷ []));
  unspent = unspent-append A from.cell h.handled (e ∷ []) h.unspent (let P : Cell S C → Type 0 = λ c. IsUnspentCell A c (e ∷ []) in subst P h.cell_is (live, tt));
  taken = ap (λ es. hand ++ es) came ∙ sym (append_assoc hand got new) ∙ ap (λ es. es ++ new) h.taken ∙ append_assoc h.handled left new ∙ ap (λ es. h.handled ++ es) next ∙ sym (append_assoc h.handled (e ∷ []) left');
  sent = sent;
  boxes = ap (λ (x : Sender S C). length x.boxes) is ∙ length-arrived slot n (A.sent now.cell.state n e) 0 now.boxes ∙ h.boxes;
}
  where
    n : ℕ
    n = number_after now.cell.number e

    sent : (k : ℕ) → k < length from.boxes → queue_at from.boxes k ++ cell_replies A slot k from.cell (h.handled ++ e ∷ []) ≡ posted k ++ queue_at now'.boxes k
    sent k lt =
        let one = mail slot n k (A.sent now.cell.state n e) in
        let P : ℕ → Type 0 = λ m. k < m in
        ap (λ es. queue_at from.boxes k ++ es) (replies-append A slot k from.cell h.handled (e ∷ [])) ∙ sym (append_assoc (queue_at from.boxes k) (cell_replies A slot k from.cell h.handled) (cell_replies A slot k (after_these A from.cell h.handled) (e ∷ [])))
        ∙ ap (λ es. es ++ cell_replies A slot k (after_these A from.cell h.handled) (e ∷ [])) (h.sent k lt)
        ∙ ap (λ (c : Cell S C). (posted k ++ queue_at now.boxes k) ++ cell_replies A slot k c (e ∷ [])) (sym h.cell_is)
        ∙ ap (λ es. (posted k ++ queue_at now.boxes k) ++ es) (append-nil one) ∙ append_assoc (posted k) (queue_at now.boxes k) one
        ∙ ap (λ es. posted k ++ es) (sym (delivered-at slot n (A.sent now.cell.state n e) now.boxes k (subst P (sym h.boxes) lt)) ∙ ap (λ (x : Sender S C). queue_at x.boxes k) (sym is))

-- the reader has done nothing yet
pub source-begins : {R C I : Type 0} (B : Reader R C I) (contexts : ℕ) (x : Source R C I) (hand got : List (Entry C)) (posted : ℕ → List (Entry C)) → got ≡ [] → ((k : ℕ) → posted k ≡ []) → SourceWorked B contexts x hand x hand got posted
source-begins B contexts x hand got posted none nothing = record {
  acts = [];
  cell_is = refl;
  items = refl;
  taken = ap (λ es. hand ++ es) none ∙ append-nil hand;
  sent = λ k lt. append-nil (queue_at x.boxes k) ∙ ap (λ es. es ++ queue_at x.boxes k) (sym (nothing k));
  boxes = refl;
}

-- what left an outbox of the reader was posted
pub source-posts : {R C I : Type 0} (B : Reader R C I) (contexts : ℕ) (from : Source R C I) (hand : List (Entry C)) (now now' : Source R C I) (left got : List (Entry C)) (posted posted' sent : ℕ → List (Entry C)) → now'.cell ≡ now.cell → length now'.boxes ≡ length now.boxes
    → ((k : ℕ) → queue_at now.boxes k ≡ sent k ++ queue_at now'.boxes k) → ((k : ℕ) → posted' k ≡ posted k ++ sent k) → SourceWorked B contexts from hand now left got posted → SourceWorked B contexts from hand now' left got posted'
source-posts {R} {C} {I} B contexts from hand now now' left got posted posted' sent cell count box more h = record {
  acts = h.acts;
  cell_is = cell ∙ h.cell_is;
  items = h.items ∙ ap (λ (r : ReaderCell R C I). acts_items h.acts ++ r.rest) (sym cell);
  taken = h.taken;
  sent = λ k lt. h.sent k lt ∙ ap (λ es. posted k ++ es) (box k) ∙ sym (append_assoc (posted k) (sent k) (queue_at now'.boxes k)) ∙ ap (λ es. es ++ queue_at now'.boxes k) (sym (more k));
  boxes = count ∙ h.boxes;
}

-- an entry from the reader's hands, or one that came by mail, was handled
pub source-handles : {R C I : Type 0} (B : Reader R C I) (contexts : ℕ) (from : Source R C I) (hand : List (Entry C)) (now now' : Source R C I) (left left' got got' : List (Entry C)) (posted : ℕ → List (Entry C)) (e : Entry C) (new : List (Entry C))
    → left ++ new ≡ e ∷ left' → got' ≡ got ++ new → now' ≡ source_after_entry B now e → SourceWorked B contexts from hand now left got posted → SourceWorked B contexts from hand now' left' got' posted
source-handles {R} {C} {I} B contexts from hand now now' left left' got got' posted e new next came is h = record {
  acts = h.acts ++ inr e ∷ [];
  cell_is = ap (λ (x : Source R C I). x.cell) is ∙ ap (λ (r : ReaderCell R C I). act_after B r (inr e)) h.cell_is ∙ sym (acts-append B from.cell h.acts (inr e ∷ []));
  items = h.items ∙ ap (λ (x : Source R C I). acts_items h.acts ++ x.cell.rest) (sym is)
      ∙ ap (λ is. is ++ now'.cell.rest) (sym (acts_items-append h.acts (inr e ∷ []) ∙ append-nil (acts_items h.acts)));
  taken = ap (λ es. hand ++ es) came ∙ sym (append_assoc hand got new) ∙ ap (λ es. es ++ new) h.taken ∙ append_assoc (acts_entries h.acts) left new ∙ ap (λ es. acts_entries h.acts ++ es) next
      ∙ sym (append_assoc (acts_entries h.acts) (e ∷ []) left') ∙ ap (λ es. es ++ left') (sym (acts_entries-append h.acts (inr e ∷ [])));
  sent = λ k lt. ap (λ es. queue_at from.boxes k ++ es) (acts_replies-append B contexts k from.cell h.acts (inr e ∷ []) ∙ append-nil (acts_replies B contexts k from.cell h.acts)) ∙ h.sent k lt ∙ ap (λ (x : Source R C I). posted k ++ queue_at x.boxes k) (sym is);
  boxes = ap (λ (x : Source R C I). length x.boxes) is ∙ h.boxes;
}

-- the reader took an item
pub source-takes : {R C I : Type 0} (B : Reader R C I) (contexts : ℕ) (from : Source R C I) (hand : List (Entry C)) (now now' : Source R C I) (left got : List (Entry C)) (posted : ℕ → List (Entry C)) (i : I) (rest : List I)
    → now.cell.rest ≡ i ∷ rest → now' ≡ source_after_item B contexts now i rest → SourceWorked B contexts from hand now left got posted → SourceWorked B contexts from hand now' left got posted
source-takes {R} {C} {I} B contexts from hand now now' left got posted i rest first is h = record {
  acts = h.acts ++ inl i ∷ [];
  cell_is = ap (λ (x : Source R C I). x.cell) is ∙ ap (λ (l : List I). reader_after_item B now.cell i (rest_of l)) (sym first) ∙ ap (λ (r : ReaderCell R C I). act_after B r (inl i)) h.cell_is ∙ sym (acts-append B from.cell h.acts (inl i ∷ []));
  items = h.items ∙ ap (λ l. acts_items h.acts ++ l) first ∙ sym (append_assoc (acts_items h.acts) (i ∷ []) rest) ∙ ap (λ l. l ++ rest) (sym (acts_items-append h.acts (inl i ∷ [])))
      ∙ ap (λ (x : Source R C I). acts_items (h.acts ++ inl i ∷ []) ++ x.cell.rest) (sym is);
  taken = h.taken ∙ ap (λ es. es ++ left) (sym (acts_entries-append h.acts (inl i ∷ []) ∙ append-nil (acts_entries h.acts)));
  sent = sent;
  boxes = ap (λ (x : Source R C I). length x.boxes) is ∙ length-arrived contexts n (B.item_sent now.cell.state i) 0 now.boxes ∙ h.boxes;
}
  where
    n : ℕ
    n = 1 + now.cell.number

    sent : (k : ℕ) → k < length from.boxes → queue_at from.boxes k ++ acts_replies B contexts k from.cell (h.acts ++ inl i ∷ []) ≡ posted k ++ queue_at now'.boxes k
    sent k lt =
        let one = mail contexts n k (B.item_sent now.cell.state i) in
        let P : ℕ → Type 0 = λ m. k < m in
        ap (λ es. queue_at from.boxes k ++ es) (acts_replies-append B contexts k from.cell h.acts (inl i ∷ []))
        ∙ sym (append_assoc (queue_at from.boxes k) (acts_replies B contexts k from.cell h.acts) (acts_replies B contexts k (after_acts B from.cell h.acts) (inl i ∷ [])))
        ∙ ap (λ es. es ++ acts_replies B contexts k (after_acts B from.cell h.acts) (inl i ∷ [])) (h.sent k lt)
        ∙ ap (λ (r : ReaderCell R C I). (posted k ++ queue_at now.boxes k) ++ acts_replies B contexts k r (inl i ∷ [])) (sym h.cell_is)
        ∙ ap (λ es. (posted k ++ queue_at now.boxes k) ++ es) (append-nil one) ∙ append_assoc (posted k) (queue_at now.boxes k) one
        ∙ ap (λ es. posted k ++ es) (sym (delivered-at contexts n (B.item_sent now.cell.state i) now.boxes k (subst P (sym h.boxes) lt)) ∙ ap (λ (x : Source R C I). queue_at x.boxes k) (sym is))
