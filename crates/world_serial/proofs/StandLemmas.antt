-- The parts stand behind each turn of a slot.
use Rattle.std.proofs.Common.{◌≡◌, ◌<◌, ◌∷◌}
use Rattle.world_serial.proofs.Common.{ℕ, zero, suc, List, [], Bool, true, false, None, Some, refl, sym, ◌∙◌, ap, subst, arith, length, get_or, slice_get, slice_set, Entry, number_after, queue_at, cell_after, delivered, Cargo, first_of, rest_of}
use Rattle.std.proofs.lemmas.List.{length-map}
use Rattle.std.proofs.lemmas.Option.{same_Some, slice_get_read}
use Rattle.std.specs.Prelude.{IfSome}
use Rattle.actor_theory.specs.Machine.{empty_queues}
use Rattle.actor_theory.proofs.Queues.{length-set}
use Rattle.naive_meaning.specs.Actors.{slots_of, reader_of}
use Rattle.world_serial.specs.Common.{Program, Settings, CellPart, ReaderPart}
use Rattle.world_serial.specs.Serial.{CellStands, Standing, cell_of, cells_in}
use Rattle.world_serial.proofs.Delivery.{get-map, set-map}
use Rattle.world_serial.proofs.TurnLemmas.{Turned, taken-none, turn-spent, turn-idle, turn-handled}

-- the parts of one turn of an actor, and what was found
abbrev pub PartsTurned : Program → Settings → Bool → ℕ → List CellPart → ReaderPart → List (List (Entry Cargo)) → List CellPart → ReaderPart → List (List (Entry Cargo)) → Bool → Type 0
PartsTurned p settings takes d cells reader queued cells' reader' queued' found = Turned settings.contexts (slots_of p settings) (reader_of p settings.contexts) takes d (cells_in cells) reader.cell queued (cells_in cells') reader'.cell queued' found

-- what holds at each place holds there with one item changed
each-set : {X : Type 0} (P : ℕ → X → Type 0) (xs : List X) (d : ℕ) (x : X) → P d x → ((k : ℕ) → IfSome (slice_get xs k) (P k)) → (k : ℕ) → IfSome (slice_get (slice_set xs d x) k) (P k)
each-set P [] d x h each k = each k
each-set P (y ∷ ys) zero x h each zero = h
each-set P (y ∷ ys) zero x h each (suc k) = each (suc k)
each-set P (y ∷ ys) (suc d) x h each zero = each zero
each-set P (y ∷ ys) (suc d) x h each (suc k) = each-set (λ j. P (suc j)) ys d x h (λ j. each (suc j)) k

module _ (p : Program) (settings : Settings) (cells : List CellPart) (reader : ReaderPart) (queued : List (List (Entry Cargo))) (h : Standing p settings cells reader queued) where
  -- a slot's cell is there
  pub cell-low : (slot : ℕ) → slot < settings.contexts → slot < length cells
  cell-low slot lt = let count = h.stand.cells_count in let same = length-map cells cell_of in omega arith

  pub queue-low : (slot : ℕ) → slot < settings.contexts → slot < length queued
  queue-low slot lt = let count = h.stand.queues_count in omega arith

  pub reader-low : settings.contexts < length queued
  reader-low = let count = h.stand.queues_count in omega arith

  cell-at : (slot : ℕ) (c : CellPart) → slot < settings.contexts → c ≡ get_or cells slot c → slice_get cells slot ≡ Some c
  cell-at slot c lt read = slice_get_read cells (length cells) slot c refl (cell-low slot lt) read

  pub cell-stands : (slot : ℕ) (c : CellPart) → slot < settings.contexts → c ≡ get_or cells slot c → CellStands settings.contexts slot c
  cell-stands slot c lt read = subst (λ o. IfSome o (CellStands settings.contexts slot)) (cell-at slot c lt read) (h.each slot)

  -- a cell that was read twice is live as before
  pub alive-again : (slot : ℕ) (c d : CellPart) → slot < settings.contexts → c ≡ get_or cells slot c → d ≡ get_or cells slot d → d.cell.state.spent ≡ false → c.cell.state.spent ≡ false
  alive-again slot c d lt read read' alive = ap (λ (x : CellPart). x.cell.state.spent) (same_Some c d (sym (cell-at slot c lt read) ∙ cell-at slot d lt read')) ∙ alive

  -- there are as many queues as before
  pub taken-count : (k : ℕ) (queued' : List (List (Entry Cargo))) → queued' ≡ slice_set queued k (rest_of (queue_at queued k)) → length queued' ≡ suc settings.contexts
  taken-count k queued' taken = ap length taken ∙ length-set queued k (rest_of (queue_at queued k)) ∙ h.stand.queues_count

  pub handed-cell : (slot k : ℕ) (c : CellPart) (queued' : List (List (Entry Cargo))) → slot < settings.contexts → c ≡ get_or cells slot c → queued' ≡ slice_set queued k (rest_of (queue_at queued k)) → c.outboxes ≡ empty_queues (length queued')
  handed-cell slot k c queued' lt read taken = (cell-stands slot c lt read).outboxes ∙ ap empty_queues (sym (taken-count k queued' taken))

  pub handed-reader : (k : ℕ) (queued' : List (List (Entry Cargo))) → queued' ≡ slice_set queued k (rest_of (queue_at queued k)) → reader.outboxes ≡ empty_queues (length queued')
  handed-reader k queued' taken = h.handed ∙ ap empty_queues (sym (taken-count k queued' taken))

  -- the slot is spent
  pub slot-spent : (takes : Bool) (slot : ℕ) (c : CellPart) → slot < settings.contexts → c ≡ get_or cells slot c → c.cell.state.spent ≡ true → PartsTurned p settings takes slot cells reader queued cells reader queued false
  slot-spent takes slot c lt read spent =
      turn-spent settings.contexts (slots_of p settings) (reader_of p settings.contexts) takes slot (cells_in cells) reader.cell queued c.cell h.stand (get-map cell_of cells slot c (cell-at slot c lt read)) spent

  -- nothing waits for it
  pub slot-idle : (takes : Bool) (slot : ℕ) (c : CellPart) (queued' : List (List (Entry Cargo))) → slot < settings.contexts → c ≡ get_or cells slot c → None ≡ first_of (queue_at queued slot) → queued' ≡ slice_set queued slot (rest_of (queue_at queued slot))
      → PartsTurned p settings takes slot cells reader queued cells reader queued' false
  slot-idle takes slot c queued' lt read first taken =
      turn-idle settings.contexts (slots_of p settings) (reader_of p settings.contexts) takes slot (cells_in cells) reader.cell queued queued' c.cell h.stand (get-map cell_of cells slot c (cell-at slot c lt read)) first taken

  pub idle-stands : (k : ℕ) (queued' : List (List (Entry Cargo))) → None ≡ first_of (queue_at queued k) → queued' ≡ slice_set queued k (rest_of (queue_at queued k)) → Standing p settings cells reader queued'
  idle-stands k queued' first taken = subst (Standing p settings cells reader) (sym (taken-none queued queued' k first taken)) h

  -- it handles its oldest entry, and what it sends has arrived
  pub slot-handled : (takes : Bool) (slot : ℕ) (c c' : CellPart) (e : Entry Cargo) (queued' queued'' : List (List (Entry Cargo))) → slot < settings.contexts → c ≡ get_or cells slot c → c.cell.state.spent ≡ false → Some e ≡ first_of (queue_at queued slot)
      → queued' ≡ slice_set queued slot (rest_of (queue_at queued slot)) → c'.cell ≡ cell_after (slots_of p settings) c.cell e
      → queued'' ≡ delivered c.cell.state.slot (number_after c.cell.number e) ((slots_of p settings).sent c.cell.state (number_after c.cell.number e) e) queued' → PartsTurned p settings takes slot cells reader queued (slice_set cells slot c') reader queued'' true
  slot-handled takes slot c c' e queued' queued'' lt read alive first taken after sent =
      let n : ℕ = number_after c.cell.number e in
      turn-handled settings.contexts (slots_of p settings) (reader_of p settings.contexts) takes slot (cells_in cells) (cells_in (slice_set cells slot c')) reader.cell queued queued' queued'' c.cell c'.cell e h.stand (get-map cell_of cells slot c (cell-at slot c lt read)) alive first taken after
      (set-map cell_of cells slot c') (sent ∙ ap (λ s. delivered s n ((slots_of p settings).sent c.cell.state n e) queued') (cell-stands slot c lt read).slot)

  pub handled-stands : (takes : Bool) (slot k : ℕ) (c c' : CellPart) (queued' queued'' : List (List (Entry Cargo))) → slot < settings.contexts → c ≡ get_or cells slot c → PartsTurned p settings takes slot cells reader queued (slice_set cells slot c') reader queued'' true
      → queued' ≡ slice_set queued k (rest_of (queue_at queued k)) → c'.cell.state.slot ≡ c.cell.state.slot → c'.outboxes ≡ empty_queues (length queued') → Standing p settings (slice_set cells slot c') reader queued''
  handled-stands takes slot k c c' queued' queued'' lt read turned taken same handed = record {
    stand = turned.stand;
    each = each-set (CellStands settings.contexts) cells slot c' (record { slot = same ∙ (cell-stands slot c lt read).slot; outboxes = handed ∙ ap empty_queues (taken-count k queued' taken) }) h.each;
    contexts = h.contexts;
    handed = h.handed;
  }
