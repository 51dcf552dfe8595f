-- The reader takes an item, and hands over what it sends.
use Rattle.std.proofs.Common.{◌≡◌, ◌+◌, ◌∷◌, List, [], Bool, true, None, refl, sym, ◌∙◌, ap, subst, length, slice_set, Ok, Err, IfOk}
use Rattle.std.specs.Result.{OnOk}
use Rattle.std.specs.declared.result.Result.{Result}
use Rattle.actor_theory.specs.declared.entry.Entry.{Entry}
use Rattle.actor_theory.specs.Joined.{slots_only}
use Rattle.actor_theory.specs.Machine.{delivered, empty_queues, queue_at}
use Rattle.record_book.specs.declared.cargo.Cargo.{Cargo}
use Rattle.naive_meaning.specs.Actors.{item_sends, reader_of, slots_of}
use Rattle.source_actor.specs.Steps.{has_first, part_after_first}
use Rattle.entry_queues.specs.Queued.{Gathers, first_of, rest_of}
use Rattle.world_serial.specs.Common.{CellPart, Item, Program, ReaderPart, Settings}
use Rattle.world_serial.specs.Fitting.{Fitting}
use Rattle.world_serial.specs.Serial.{Standing, TakesFirst, cells_in}
use Rattle.world_serial.proofs.TurnLemmas.{taken-none, turn-done, turn-item}
use Rattle.world_serial.proofs.FittingLemmas.{item-fits}
use Rattle.world_serial.proofs.StandLemmas.{PartsTurned}
use Rattle.world_serial.proofs.Delivery.{emptied-boxes, handed-over, length-empty, nothing-over, sent-count}

-- a reader by its parts
pub part-same : (a b : ReaderPart) → a.contexts ≡ b.contexts → a.cell ≡ b.cell → a.outboxes ≡ b.outboxes → a ≡ b
part-same a b contexts cell outboxes = λ i. record { contexts = contexts i; cell = cell i; outboxes = outboxes i }

-- there are as many outboxes as before
pub first-count : (p : Program) (r r' : ReaderPart) (queued : List (List (Entry Cargo))) (items : List Item) → r' ≡ part_after_first p r items → r.outboxes ≡ empty_queues (length queued) → length r'.outboxes ≡ length queued
first-count p r r' queued [] is empty = ap (λ (x : ReaderPart). length x.outboxes) is ∙ ap length empty ∙ length-empty (length queued)
first-count p r r' queued (i ∷ rest) is empty = sent-count r.contexts (1 + r.cell.number) (slots_only r.contexts (item_sends r.contexts i)) r.outboxes r'.outboxes queued (ap (λ (x : ReaderPart). x.outboxes) is) empty

pub item-takes : (p : Program) (r r' r'' : ReaderPart) (queued queued' : List (List (Entry Cargo))) (items : List Item) → r' ≡ part_after_first p r items → r.outboxes ≡ empty_queues (length queued) → Gathers r'.outboxes queued r''.outboxes queued'
    → r''.cell ≡ r'.cell → r''.contexts ≡ r'.contexts → TakesFirst p r queued items r'' queued'
item-takes p r r' r'' queued queued' [] is empty h cell contexts = (
  part-same r'' r (contexts ∙ ap (λ (x : ReaderPart). x.contexts) is) (cell ∙ ap (λ (x : ReaderPart). x.cell) is) (emptied-boxes (length queued) r'.outboxes queued r''.outboxes queued' h (first-count p r r' queued [] is empty) ∙ sym empty),
  nothing-over (length queued) r'.outboxes queued r''.outboxes queued' h (ap (λ (x : ReaderPart). x.outboxes) is ∙ empty),
)
item-takes p r r' r'' queued queued' (i ∷ rest) is empty h cell contexts = (
  part-same r'' _ (contexts ∙ ap (λ (x : ReaderPart). x.contexts) is) (cell ∙ ap (λ (x : ReaderPart). x.cell) is) (emptied-boxes (length queued) r'.outboxes queued r''.outboxes queued' h (first-count p r r' queued (i ∷ rest) is empty) ∙ sym empty),
  handed-over r.contexts (1 + r.cell.number) (length queued) (slots_only r.contexts (item_sends r.contexts i)) r'.outboxes queued r''.outboxes queued' h (ap (λ (x : ReaderPart). x.outboxes) is ∙ ap (delivered r.contexts (1 + r.cell.number) (slots_only r.contexts (item_sends r.contexts i))) empty) refl,
)

-- what follows where there is an answer
pub ok-then : {T E F : Type 0} {P Q : T → Type 0} (r : Result T E) → IfOk r P → OnOk r F → ((x : T) → P x → F → Q x) → IfOk r Q
ok-then (Ok x) h i f = f x h i
ok-then (Err e) h i f = tt

module _ (p : Program) (settings : Settings) (cells : List CellPart) (reader : ReaderPart) (queued queued' : List (List (Entry Cargo))) (h : Standing p settings cells reader queued) (first : None ≡ first_of (queue_at queued settings.contexts))
    (taken : queued' ≡ slice_set queued settings.contexts (rest_of (queue_at queued settings.contexts))) where
  -- the reader's turn, where it has no entry, and may take one of these items
  pub item-turned : (takes found : Bool) (items : List Item) (reader' : ReaderPart) (queued'' : List (List (Entry Cargo))) → takes ≡ true → reader.cell.rest ≡ items → found ≡ has_first items → TakesFirst p reader queued' items reader' queued''
      → PartsTurned p settings takes settings.contexts cells reader queued cells reader' queued'' found
  item-turned takes found [] reader' queued'' may rest is did =
      let P : Bool → Type 0 = λ b. PartsTurned p settings takes settings.contexts cells reader queued cells reader' queued'' b in
      subst P (sym is) (turn-done settings.contexts (slots_of p settings) (reader_of p settings.contexts) takes (cells_in cells) reader.cell reader'.cell queued queued' queued'' h.stand first taken may rest (ap (λ (x : ReaderPart). x.cell) did.0) did.1)
  item-turned takes found (i ∷ items) reader' queued'' may rest is did =
      let P : Bool → Type 0 = λ b. PartsTurned p settings takes settings.contexts cells reader queued cells reader' queued'' b in
      let sent = did.1 ∙ ap (λ s. delivered s (1 + reader.cell.number) (slots_only s (item_sends s i)) queued') h.contexts in
      subst P (sym is)
      (turn-item settings.contexts (slots_of p settings) (reader_of p settings.contexts) takes (cells_in cells) reader.cell reader'.cell queued queued' queued'' i items h.stand first taken may rest (ap (λ (x : ReaderPart). x.cell) did.0) sent)

  -- the reader among so many contexts, with its outboxes
  first-same : (items : List Item) (reader' : ReaderPart) (queued'' : List (List (Entry Cargo))) → TakesFirst p reader queued' items reader' queued'' → (reader'.contexts ≡ reader.contexts) × (reader'.outboxes ≡ reader.outboxes)
  first-same [] reader' queued'' did = (ap (λ (x : ReaderPart). x.contexts) did.0, ap (λ (x : ReaderPart). x.outboxes) did.0)
  first-same (i ∷ items) reader' queued'' did = (ap (λ (x : ReaderPart). x.contexts) did.0, ap (λ (x : ReaderPart). x.outboxes) did.0)

  -- the parts stand behind it
  pub item-stands : (takes found : Bool) (items : List Item) (reader' : ReaderPart) (queued'' : List (List (Entry Cargo))) → takes ≡ true → reader.cell.rest ≡ items → found ≡ has_first items → TakesFirst p reader queued' items reader' queued''
      → Standing p settings cells reader' queued''
  item-stands takes found items reader' queued'' may rest is did =
      let same = first-same items reader' queued'' did in
      let turned = item-turned takes found items reader' queued'' may rest is did in
      record { stand = turned.stand; each = h.each; contexts = same.0 ∙ h.contexts; handed = same.1 ∙ h.handed }

  -- and fit
  pub item-turn_fits : (items : List Item) (reader' : ReaderPart) (queued'' : List (List (Entry Cargo))) → Fitting p cells items queued → TakesFirst p reader queued' items reader' queued'' → reader.cell.rest ≡ items → Fitting p cells reader'.cell.rest queued''
  item-turn_fits [] reader' queued'' fit did rest =
      let same : queued'' ≡ queued = did.1 ∙ taken-none queued queued' settings.contexts first taken in
      let none : reader'.cell.rest ≡ [] = ap (λ (x : ReaderPart). x.cell.rest) did.0 ∙ rest in
      subst (Fitting p cells reader'.cell.rest) (sym same) (subst (λ its. Fitting p cells its queued) (sym none) fit)
  item-turn_fits (i ∷ items) reader' queued'' fit did rest =
      let stays = taken-none queued queued' settings.contexts first taken in
      let sent = did.1 ∙ ap (delivered reader.contexts (1 + reader.cell.number) (slots_only reader.contexts (item_sends reader.contexts i))) stays in
      item-fits p reader.contexts (1 + reader.cell.number) reader.contexts cells i items reader'.cell.rest queued queued'' fit sent (ap (λ (x : ReaderPart). x.cell.rest) did.0)

-- a program of nothing
pub no_program : Program
no_program = record { types = []; monitors = []; actions = []; sites = [] }
