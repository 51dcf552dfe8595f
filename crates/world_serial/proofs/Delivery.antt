-- What an actor sends, by way of its outboxes.
use Rattle.std.proofs.Common.{◌≡◌, ◌<◌, ◌∷◌, ◌++◌, append-nil, ℕ, zero, suc, List, [], Some, refl, sym, ◌∙◌, ap, subst, arith, length, map, slice_get, slice_set}
use Rattle.actor_theory.specs.declared.entry.Entry.{Entry}
use Rattle.actor_theory.specs.Language.{Sent, mail}
use Rattle.actor_theory.specs.Machine.{queue_at, empty_queues, delivered}
use Rattle.actor_theory.proofs.Queues.{delivered-at, length-arrived}
use Rattle.record_book.specs.declared.cargo.Cargo.{Cargo}
use Rattle.std.specs.Prelude.{◌^◌, ◌-◌}
use Rattle.actor_theory.specs.Machine.{Cell}
use Rattle.context_meaning.specs.Contexts.{Context}
use Rattle.context_meaning.specs.Fits.{ContextFits}
use Rattle.context_core.specs.Cells.{Rests}
use Rattle.world_serial.specs.Common.{CellPart, Program, Settings}
use Rattle.entry_queues.specs.Queued.{Gathers}

-- queues are the same where each is
pub same-queues : (xs ys : List (List (Entry Cargo))) → length xs ≡ length ys → ((k : ℕ) → k < length xs → queue_at xs k ≡ queue_at ys k) → xs ≡ ys
same-queues [] [] count each = refl
same-queues [] (y ∷ ys) count each = absurd (omega arith)
same-queues (x ∷ xs) [] count each = absurd (omega arith)
same-queues (x ∷ xs) (y ∷ ys) count each =
    let rest : xs ≡ ys = same-queues xs ys (omega arith) (λ k lt. each (suc k) (omega arith)) in
    let first : x ≡ y = each 0 (omega arith) in
    ap (λ (q : List (Entry Cargo)). q ∷ xs) first ∙ ap (λ qs. y ∷ qs) rest

pub length-empty : (n : ℕ) → length (empty_queues {C = Cargo} n) ≡ n
length-empty zero = refl
length-empty (suc n) = ap suc (length-empty n)

pub empty-at : (n k : ℕ) → queue_at (empty_queues {C = Cargo} n) k ≡ []
empty-at zero k = refl
empty-at (suc n) zero = refl
empty-at (suc n) (suc k) = empty-at n k

-- outboxes that are empty again
pub emptied-boxes : (n : ℕ) (outboxes queued outboxes' queued' : List (List (Entry Cargo))) → Gathers outboxes queued outboxes' queued' → length outboxes ≡ n → outboxes' ≡ empty_queues n
emptied-boxes n outboxes queued outboxes' queued' h count =
    let empty = length-empty n in
    let boxes = h.boxes_count in
    same-queues outboxes' (empty_queues n) (omega arith) (λ k lt. h.emptied k ∙ sym (empty-at n k))

-- what was sent into empty outboxes, and handed over, has arrived
pub handed-over : (s n count : ℕ) (sent : List (Sent Cargo)) (outboxes queued outboxes' queued' : List (List (Entry Cargo))) → Gathers outboxes queued outboxes' queued' → outboxes ≡ delivered s n sent (empty_queues count) → length queued ≡ count
    → queued' ≡ delivered s n sent queued
handed-over s n count sent outboxes queued outboxes' queued' h is counted =
    let empty = length-empty count in
    let gains = h.count in
    let arrives = length-arrived s n sent 0 queued in
    same-queues queued' (delivered s n sent queued) (omega arith)
    (λ k lt. let low : k < length queued = omega arith in
    let within : k < length (empty_queues {C = Cargo} count) = omega arith in
    h.queues k ∙ ap (λ (os : List (List (Entry Cargo))). queue_at queued k ++ queue_at os k) is ∙ ap (λ (es : List (Entry Cargo)). queue_at queued k ++ es) (delivered-at s n sent (empty_queues count) k within)
    ∙ ap (λ (es : List (Entry Cargo)). queue_at queued k ++ (es ++ mail s n k sent)) (empty-at count k) ∙ sym (delivered-at s n sent queued k low))

-- nothing was sent
pub nothing-over : (count : ℕ) (outboxes queued outboxes' queued' : List (List (Entry Cargo))) → Gathers outboxes queued outboxes' queued' → outboxes ≡ empty_queues count → queued' ≡ queued
nothing-over count outboxes queued outboxes' queued' h is =
    same-queues queued' queued h.count (λ k lt. h.queues k ∙ ap (λ (os : List (List (Entry Cargo))). queue_at queued k ++ queue_at os k) is ∙ ap (λ (es : List (Entry Cargo)). queue_at queued k ++ es) (empty-at count k) ∙ append-nil (queue_at queued k))

-- the changed cell among all
pub set-map : {X Y : Type 0} (f : X → Y) (xs : List X) (k : ℕ) (x : X) → map f (slice_set xs k x) ≡ slice_set (map f xs) k (f x)
set-map f [] k x = refl
set-map f (y ∷ ys) zero x = refl
set-map f (y ∷ ys) (suc k) x = ap (λ zs. f y ∷ zs) (set-map f ys k x)

pub get-map : {X Y : Type 0} (f : X → Y) (xs : List X) (k : ℕ) (x : X) → slice_get xs k ≡ Some x → slice_get (map f xs) k ≡ Some (f x)
get-map f [] k x h = absurd (cc)
get-map f (y ∷ ys) zero x h = cc
get-map f (y ∷ ys) (suc k) x h = get-map f ys k x h

-- there are as many outboxes as before
pub sent-count : (s n : ℕ) (sent : List (Sent Cargo)) (outboxes outboxes' queued : List (List (Entry Cargo))) → outboxes' ≡ delivered s n sent outboxes → outboxes ≡ empty_queues (length queued) → length outboxes' ≡ length queued
sent-count s n sent outboxes outboxes' queued is empty = ap length is ∙ length-arrived s n sent 0 outboxes ∙ ap length empty ∙ length-empty (length queued)

-- a cell whose outboxes alone have changed
pub rests-same : (p : Program) (c c' : CellPart) → c'.cell ≡ c.cell → Rests p c → Rests p c'
rests-same p c c' is h = record {
  fits = subst (ContextFits p) (sym (ap (λ (x : Cell Context Cargo). x.state) is)) h.fits;
  row = ap (λ (x : Cell Context Cargo). x.state.row) is ∙ h.row;
  fuel = subst (λ (n : ℕ). n < 2 ^ 64 - 1) (sym (ap (λ (x : Cell Context Cargo). x.state.fuel) is)) h.fuel;
}

-- settings, where none is read
pub no_settings : Settings
no_settings = record { fuel = 0; contexts = 0; mailbox = 0 }
