-- The turns of slots and reader, over any of both.
use Rattle.std.proofs.Common.{◌≡◌, ◌+◌, ◌∷◌}
use Rattle.world_serial.proofs.Common.{ℕ, List, [], Bool, true, false, Some, None, refl, sym, ◌∙◌, ap, subst, slice_get, slice_set, Entry, number_after, slots_only, Cell, ReaderCell, Slots, Reader, joined, queue_at, world_of, Stand, Stepped, cell_after, delivered, reader_after_entry, reader_after_item, turn_of, Cargo, first_of, rest_of}
use Rattle.actor_theory.proofs.Reading.{set-queue}
use Rattle.actor_theory.proofs.Turning.{turned-slot, turned-slot_empty, turned-slot_spent, turned-entry, turned-item, turned-done, turned-wait}

-- a queue without a first entry is empty, and one with a first entry is that entry and the rest
pub none-first : (q : List (Entry Cargo)) → None ≡ first_of q → q ≡ []
none-first [] h = refl
none-first (e ∷ es) h = absurd (cc)

pub some-first : (q : List (Entry Cargo)) (e : Entry Cargo) → Some e ≡ first_of q → q ≡ e ∷ rest_of q
some-first [] e h = absurd (cc)
some-first (f ∷ es) e h = cc

none-rest : (q : List (Entry Cargo)) → None ≡ first_of q → rest_of q ≡ q
none-rest [] h = refl
none-rest (e ∷ es) h = absurd (cc)

-- where nothing was there to be taken all queues stay
pub taken-none : (queued queued' : List (List (Entry Cargo))) (k : ℕ) → None ≡ first_of (queue_at queued k) → queued' ≡ slice_set queued k (rest_of (queue_at queued k)) → queued' ≡ queued
taken-none queued queued' k first rest = rest ∙ ap (slice_set queued k) (none-rest (queue_at queued k) first) ∙ set-queue queued k

module _ {S R I : Type 0} (contexts : ℕ) (A : Slots S Cargo) (B : Reader R Cargo I) where
  -- the parts have made the turn of an actor
  abbrev pub Turned : Bool → ℕ → List (Cell S Cargo) → ReaderCell R Cargo I → List (List (Entry Cargo)) → List (Cell S Cargo) → ReaderCell R Cargo I → List (List (Entry Cargo)) → Bool → Type 0
  Turned takes d cells reader queued cells' reader' queued' found = Stepped contexts A B cells reader queued (turn_of (joined contexts A B) takes (world_of contexts cells reader queued) d) cells' reader' queued' found

  pub turn-spent : (takes : Bool) (slot : ℕ) (cells : List (Cell S Cargo)) (reader : ReaderCell R Cargo I) (queued : List (List (Entry Cargo))) (c : Cell S Cargo) → Stand contexts A B cells reader queued → slice_get cells slot ≡ Some c → A.is_spent c.state ≡ true
      → Turned takes slot cells reader queued cells reader queued false
  turn-spent takes slot cells reader queued c h at spent = turned-slot_spent contexts A B takes cells reader queued slot c h at spent

  pub turn-idle : (takes : Bool) (slot : ℕ) (cells : List (Cell S Cargo)) (reader : ReaderCell R Cargo I) (queued queued' : List (List (Entry Cargo))) (c : Cell S Cargo) → Stand contexts A B cells reader queued → slice_get cells slot ≡ Some c
      → None ≡ first_of (queue_at queued slot) → queued' ≡ slice_set queued slot (rest_of (queue_at queued slot)) → Turned takes slot cells reader queued cells reader queued' false
  turn-idle takes slot cells reader queued queued' c h at first rest =
      let P : List (List (Entry Cargo)) → Type 0 = λ qs. Turned takes slot cells reader queued cells reader qs false in
      subst P (sym (taken-none queued queued' slot first rest)) (turned-slot_empty contexts A B takes cells reader queued slot c h at (none-first (queue_at queued slot) first))

  -- a slot handles its oldest entry, and what it sends has arrived
  pub turn-handled : (takes : Bool) (slot : ℕ) (cells cells' : List (Cell S Cargo)) (reader : ReaderCell R Cargo I) (queued queued' queued'' : List (List (Entry Cargo))) (c c' : Cell S Cargo) (e : Entry Cargo) → Stand contexts A B cells reader queued
      → slice_get cells slot ≡ Some c → A.is_spent c.state ≡ false → Some e ≡ first_of (queue_at queued slot) → queued' ≡ slice_set queued slot (rest_of (queue_at queued slot)) → c' ≡ cell_after A c e → cells' ≡ slice_set cells slot c'
      → queued'' ≡ delivered slot (number_after c.number e) (A.sent c.state (number_after c.number e) e) queued' → Turned takes slot cells reader queued cells' reader queued'' true
  turn-handled takes slot cells cells' reader queued queued' queued'' c c' e h at alive first rest after put sent =
      let turned = turned-slot contexts A B takes cells reader queued slot c e (rest_of (queue_at queued slot)) h at alive (some-first (queue_at queued slot) e first) in
      let n : ℕ = number_after c.number e in
      let cells_are : slice_set cells slot (cell_after A c e) ≡ cells' = ap (slice_set cells slot) (sym after) ∙ sym put in
      let queues_are : delivered slot n (A.sent c.state n e) (slice_set queued slot (rest_of (queue_at queued slot))) ≡ queued'' = ap (delivered slot n (A.sent c.state n e)) (sym rest) ∙ sym sent in
      let P : List (List (Entry Cargo)) → Type 0 = λ qs. Turned takes slot cells reader queued (slice_set cells slot (cell_after A c e)) reader qs true in
      let Q : List (Cell S Cargo) → Type 0 = λ cs. Turned takes slot cells reader queued cs reader queued'' true in
      subst Q cells_are (subst P queues_are turned)

  -- the reader handles its oldest entry
  pub turn-entry : (takes : Bool) (cells : List (Cell S Cargo)) (reader reader' : ReaderCell R Cargo I) (queued queued' : List (List (Entry Cargo))) (e : Entry Cargo) → Stand contexts A B cells reader queued → Some e ≡ first_of (queue_at queued contexts)
      → queued' ≡ slice_set queued contexts (rest_of (queue_at queued contexts)) → reader' ≡ reader_after_entry B reader e → Turned takes contexts cells reader queued cells reader' queued' true
  turn-entry takes cells reader reader' queued queued' e h first rest after =
      let turned = turned-entry contexts A B takes cells reader queued e (rest_of (queue_at queued contexts)) h (some-first (queue_at queued contexts) e first) in
      let P : List (List (Entry Cargo)) → Type 0 = λ qs. Turned takes contexts cells reader queued cells (reader_after_entry B reader e) qs true in
      let Q : ReaderCell R Cargo I → Type 0 = λ r. Turned takes contexts cells reader queued cells r queued' true in
      subst Q (sym after) (subst P (sym rest) turned)

  pub turn-wait : (takes : Bool) (cells : List (Cell S Cargo)) (reader : ReaderCell R Cargo I) (queued queued' : List (List (Entry Cargo))) → Stand contexts A B cells reader queued → None ≡ first_of (queue_at queued contexts)
      → queued' ≡ slice_set queued contexts (rest_of (queue_at queued contexts)) → takes ≡ false → Turned takes contexts cells reader queued cells reader queued' false
  turn-wait takes cells reader queued queued' h first rest no_items =
      let P : List (List (Entry Cargo)) → Type 0 = λ qs. Turned takes contexts cells reader queued cells reader qs false in
      let Q : Bool → Type 0 = λ b. Turned b contexts cells reader queued cells reader queued false in
      subst P (sym (taken-none queued queued' contexts first rest)) (subst Q (sym no_items) (turned-wait contexts A B cells reader queued h (none-first (queue_at queued contexts) first)))

  -- the reader has no item left
  pub turn-done : (takes : Bool) (cells : List (Cell S Cargo)) (reader reader' : ReaderCell R Cargo I) (queued queued' queued'' : List (List (Entry Cargo))) → Stand contexts A B cells reader queued → None ≡ first_of (queue_at queued contexts)
      → queued' ≡ slice_set queued contexts (rest_of (queue_at queued contexts)) → takes ≡ true → reader.rest ≡ [] → reader' ≡ reader → queued'' ≡ queued' → Turned takes contexts cells reader queued cells reader' queued'' false
  turn-done takes cells reader reader' queued queued' queued'' h first rest may none after same =
      let P : List (List (Entry Cargo)) → Type 0 = λ qs. Turned takes contexts cells reader queued cells reader qs false in
      let Q : Bool → Type 0 = λ b. Turned b contexts cells reader queued cells reader queued false in
      let T : ReaderCell R Cargo I → Type 0 = λ r. Turned takes contexts cells reader queued cells r queued'' false in
      let stays : queued ≡ queued'' = sym (same ∙ taken-none queued queued' contexts first rest) in
      subst T (sym after) (subst P stays (subst Q (sym may) (turned-done contexts A B cells reader queued h (none-first (queue_at queued contexts) first) none)))

  -- the reader takes an item, and what it sends has arrived
  pub turn-item : (takes : Bool) (cells : List (Cell S Cargo)) (reader reader' : ReaderCell R Cargo I) (queued queued' queued'' : List (List (Entry Cargo))) (i : I) (items : List I) → Stand contexts A B cells reader queued → None ≡ first_of (queue_at queued contexts)
      → queued' ≡ slice_set queued contexts (rest_of (queue_at queued contexts)) → takes ≡ true → reader.rest ≡ i ∷ items → reader' ≡ reader_after_item B reader i items
      → queued'' ≡ delivered contexts (1 + reader.number) (slots_only contexts (B.item_sent reader.state i)) queued' → Turned takes contexts cells reader queued cells reader' queued'' true
  turn-item takes cells reader reader' queued queued' queued'' i items h first rest may next after sent =
      let turned = turned-item contexts A B cells reader queued i items h (none-first (queue_at queued contexts) first) next in
      let to : delivered contexts (1 + reader.number) (slots_only contexts (B.item_sent reader.state i)) queued ≡ queued'' = sym (sent ∙ ap (delivered contexts (1 + reader.number) (slots_only contexts (B.item_sent reader.state i))) (taken-none queued queued' contexts first rest)) in
      let P : List (List (Entry Cargo)) → Type 0 = λ qs. Turned true contexts cells reader queued cells (reader_after_item B reader i items) qs true in
      let Q : Bool → Type 0 = λ b. Turned b contexts cells reader queued cells reader' queued'' true in
      let T : ReaderCell R Cargo I → Type 0 = λ r. Turned true contexts cells reader queued cells r queued'' true in
      subst Q (sym may) (subst T (sym after) (subst P to turned))
