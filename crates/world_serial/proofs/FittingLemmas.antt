-- The parts fit, from the start on and behind each turn.
use Rattle.world_serial.proofs.Common.{ℕ, zero, suc, List, [], Some, sym, ap, subst, arith, length, get_or, nat_lt, slice_set, Entry, Sent, stamped, queue_at, delivered, Cargo, first_of, rest_of}
use Rattle.std.proofs.Common.{◌≡◌, ◌<◌, ◌≤◌, ◌∷◌, ◌++◌, All, filter}
use Rattle.std.proofs.lemmas.Option.{slice_get-get_or}
use Rattle.std.proofs.lemmas.List.Elements.{All-nil, All-cons, All-head, All-tail, All-get_or, All-set, All-push, All-map, All-append, All-filter}
use Rattle.actor_theory.specs.Language.{is_for, mail}
use Rattle.actor_theory.specs.Joined.{slots_only}
use Rattle.actor_theory.specs.Machine.{arrived, empty_queues, queue_in, loaded_queues}
use Rattle.record_book.specs.Fits.{EntriesFit, EntryFits, ItemFits, ItemsFit}
use Rattle.naive_meaning.specs.Actors.{item_sends, loads_below, reader_of}
use Rattle.context_core.specs.Cells.{Rests}
use Rattle.world_serial.specs.Common.{Program, Item, CellPart}
use Rattle.world_serial.specs.Fitting.{Fitting}
use Rattle.world_serial.proofs.Sending.{SendFits, item-sends_fit, loads-fit}
use Rattle.world_serial.proofs.TurnLemmas.{some-first}

-- ---- queues

-- what is sent under a number
mail-fits : (p : Program) (s n k : ℕ) (sent : List (Sent Cargo)) → All (SendFits p) sent → EntriesFit p (mail s n k sent)
mail-fits p s n k sent fit = All-map (EntryFits p) (stamped s n) (filter (is_for k) sent) (All-filter (is_for k) (SendFits p) sent fit)

-- the queues that it arrives at
arrived-fits : (p : Program) (s n k : ℕ) (sent : List (Sent Cargo)) (queued : List (List (Entry Cargo))) → All (SendFits p) sent → All (EntriesFit p) queued → All (EntriesFit p) (arrived s n sent k queued)
arrived-fits p s n k sent [] fit h = All-nil (EntriesFit p)
arrived-fits p s n k sent (q ∷ qs) fit h =
    All-cons (EntriesFit p) (q ++ mail s n k sent) (arrived s n sent (suc k) qs) (All-append (EntryFits p) q (mail s n k sent) (All-head (EntriesFit p) q qs h) (mail-fits p s n k sent fit))
    (arrived-fits p s n (suc k) sent qs fit (All-tail (EntriesFit p) q qs h))

pub delivered-fits : (p : Program) (s n : ℕ) (sent : List (Sent Cargo)) (queued queued' : List (List (Entry Cargo))) → queued' ≡ delivered s n sent queued → All (SendFits p) sent → All (EntriesFit p) queued → All (EntriesFit p) queued'
delivered-fits p s n sent queued queued' is fit h = subst (All (EntriesFit p)) (sym is) (arrived-fits p s n 0 sent queued fit h)

-- the entries behind the oldest
rest-fits : (p : Program) (q : List (Entry Cargo)) → EntriesFit p q → EntriesFit p (rest_of q)
rest-fits p [] fit = fit
rest-fits p (e ∷ es) fit = All-tail (EntryFits p) e es fit

-- a queue of these
queue-fits : (p : Program) (queued : List (List (Entry Cargo))) (k : ℕ) → k < length queued → All (EntriesFit p) queued → EntriesFit p (queue_at queued k)
queue-fits p queued k lt fit =
    let is : queue_at queued k ≡ get_or queued k [] = ap queue_in (slice_get-get_or queued k [] lt) in
    subst (EntriesFit p) (sym is) (All-get_or (EntriesFit p) queued k [] lt fit)

-- the oldest entry of a queue
pub oldest-fits : (p : Program) (queued : List (List (Entry Cargo))) (k : ℕ) (e : Entry Cargo) → k < length queued → Some e ≡ first_of (queue_at queued k) → All (EntriesFit p) queued → EntryFits p e
oldest-fits p queued k e lt first fit = All-head (EntryFits p) e (rest_of (queue_at queued k)) (subst (EntriesFit p) (some-first (queue_at queued k) e first) (queue-fits p queued k lt fit))

-- where it is taken
pub taken-fits : (p : Program) (queued queued' : List (List (Entry Cargo))) (k : ℕ) → k < length queued → queued' ≡ slice_set queued k (rest_of (queue_at queued k)) → All (EntriesFit p) queued → All (EntriesFit p) queued'
taken-fits p queued queued' k lt is fit = subst (All (EntriesFit p)) (sym is) (All-set (EntriesFit p) queued k (rest_of (queue_at queued k)) (rest-fits p (queue_at queued k) (queue-fits p queued k lt fit)) fit)

-- ---- turns

-- a cell is put back, and what it sends has arrived
pub turned-fits : (p : Program) (s n : ℕ) (sent : List (Sent Cargo)) (slot k : ℕ) (cells : List CellPart) (c' : CellPart) (rest : List Item) (queued queued' queued'' : List (List (Entry Cargo))) → Fitting p cells rest queued → Rests p c' → k < length queued
    → queued' ≡ slice_set queued k (rest_of (queue_at queued k)) → queued'' ≡ delivered s n sent queued' → All (SendFits p) sent → Fitting p (slice_set cells slot c') rest queued''
turned-fits p s n sent slot k cells c' rest queued queued' queued'' h rests lt taken arrived fit = record {
  cells_fit = All-set (Rests p) cells slot c' rests h.cells_fit;
  items_fit = h.items_fit;
  queued_fit = delivered-fits p s n sent queued' queued'' arrived fit (taken-fits p queued queued' k lt taken h.queued_fit);
}

-- the reader has handled an entry
pub entry-fits : (p : Program) (k : ℕ) (cells : List CellPart) (rest rest' : List Item) (queued queued' : List (List (Entry Cargo))) → Fitting p cells rest queued → k < length queued → queued' ≡ slice_set queued k (rest_of (queue_at queued k)) → rest' ≡ rest → Fitting p cells rest' queued'
entry-fits p k cells rest rest' queued queued' h lt taken same = record {
  cells_fit = h.cells_fit;
  items_fit = subst (ItemsFit p) (sym same) h.items_fit;
  queued_fit = taken-fits p queued queued' k lt taken h.queued_fit;
}

-- the reader has taken its first item
pub item-fits : (p : Program) (s n contexts : ℕ) (cells : List CellPart) (i : Item) (rest rest' : List Item) (queued queued' : List (List (Entry Cargo))) → Fitting p cells (i ∷ rest) queued → queued' ≡ delivered s n (slots_only contexts (item_sends contexts i)) queued → rest' ≡ rest
    → Fitting p cells rest' queued'
item-fits p s n contexts cells i rest rest' queued queued' h sent same = record {
  cells_fit = h.cells_fit;
  items_fit = subst (ItemsFit p) (sym same) (All-tail (ItemFits p) i rest h.items_fit);
  queued_fit = delivered-fits p s n (slots_only contexts (item_sends contexts i)) queued queued' sent (item-sends_fit p contexts i (All-head (ItemFits p) i rest h.items_fit)) h.queued_fit;
}

-- ---- the start

empty-fit : (p : Program) (n : ℕ) → All (EntriesFit p) (empty_queues n)
empty-fit p zero = All-nil (EntriesFit p)
empty-fit p (suc n) = All-cons (EntriesFit p) [] (empty_queues n) (All-nil (EntryFits p)) (empty-fit p n)

-- one more cell
pub cells-more : (p : Program) (cells cells' : List CellPart) (c : CellPart) → cells' ≡ cells ++ c ∷ [] → All (Rests p) cells → Rests p c → All (Rests p) cells'
cells-more p cells cells' c pushed fit rests = subst (All (Rests p)) (sym pushed) (All-push (Rests p) cells c fit rests)

-- the parts with the loads queued
pub begun-fits : (p : Program) (contexts : ℕ) (cells : List CellPart) (rest : List Item) (queued : List (List (Entry Cargo))) → All (Rests p) cells → rest ≡ [] → queued ≡ loaded_queues contexts (reader_of p contexts) → Fitting p cells rest queued
begun-fits p contexts cells rest queued fit none loaded =
    let le : length p.monitors ≤ length p.monitors = omega arith in
    let sent : All (SendFits p) (slots_only contexts (loads_below (length p.monitors))) = All-filter (λ (x : Sent Cargo). nat_lt x.target contexts) (SendFits p) (loads_below (length p.monitors)) (loads-fit p (length p.monitors) le) in
    record {
      cells_fit = fit;
      items_fit = subst (ItemsFit p) (sym none) (All-nil (ItemFits p));
      queued_fit = delivered-fits p contexts 0 (slots_only contexts (loads_below (length p.monitors))) (empty_queues (suc contexts)) queued loaded sent (empty-fit p (suc contexts));
    }

-- other items to come
pub given-fits : (p : Program) (cells : List CellPart) (rest items : List Item) (queued : List (List (Entry Cargo))) → Fitting p cells rest queued → ItemsFit p items → Fitting p cells items queued
given-fits p cells rest items queued h fit = record { cells_fit = h.cells_fit; items_fit = fit; queued_fit = h.queued_fit }
