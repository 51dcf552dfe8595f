-- What contexts and reader send: it fits, and what waits pays for it.
use Rattle.world_serial.proofs.Common.{ℕ, zero, suc, List, [], Bool, true, false, cond, nat_lt, arith, length, number_after, Entry, Sent, slots_only, Cargo}
use Rattle.std.proofs.Common.{ℤ, ◌≡◌, ◌+◌, ◌<◌, ◌≤◌, ◌∷◌, All, refl, length-append}
use Rattle.std.proofs.lemmas.List.Elements.{All-nil, All-cons, All-push, All-filter}
use Rattle.actor_theory.specs.Measure.{IsJoinedLog}
use Rattle.actor_theory.specs.Potential.{IsMeasure, total, entry_cost}
use Rattle.actor_theory.proofs.Measuring.{joined-measure}
use Rattle.record_book.specs.Fits.{CargoFits, IsTime, ItemFits}
use Rattle.record_book.specs.declared.cargo.Cargo.TheVariants as cargo
use Rattle.record_book.specs.declared.item.Item.TheVariants.{Event, Time}
use Rattle.epl_values.specs.declared.value.Value.{Value}
use Rattle.naive_meaning.specs.Actors.{actors_of, event_sends, item_sends, loads_below, reader_of, slots_of, times_below}
use Rattle.world_serial.specs.Common.{CellPart, Program, Item, Settings}
use Rattle.world_serial.specs.Serial.{cost, weight}

-- what a send carries fits
abbrev pub SendFits : Program → Sent Cargo → Type 0
SendFits p x = CargoFits p x.cargo

-- what a cell sends when it handles an entry
abbrev pub cell_sends : Program → Settings → CellPart → Entry Cargo → List (Sent Cargo)
cell_sends p settings c e = (slots_of p settings).sent c.cell.state (number_after c.cell.number e) e

-- it is nothing
pub cell-sends_fit : (p : Program) (settings : Settings) (c : CellPart) (e : Entry Cargo) → All (SendFits p) (cell_sends p settings c e)
cell-sends_fit p settings c e = All-nil (SendFits p)

-- what an event sends
event-sends_fit : (p : Program) (channel : List ℕ) (event : Value) → CargoFits p (cargo.Event event) → All (SendFits p) (event_sends channel event)
event-sends_fit p [] event fit = All-cons (SendFits p) (record { target = 0; cargo = cargo.Event event }) [] fit (All-nil (SendFits p))
event-sends_fit p (b ∷ channel) event fit = All-nil (SendFits p)

-- a time, wherever it goes
times-fit : (p : Program) (n : ℕ) (t : ℤ) → IsTime t → All (SendFits p) (times_below n t)
times-fit p zero t fit = All-nil (SendFits p)
times-fit p (suc n) t fit = All-push (SendFits p) (times_below n t) (record { target = n; cargo = cargo.Time t }) (times-fit p n t fit) fit

-- what an item sends
sends-fit : (p : Program) (contexts : ℕ) (i : Item) → ItemFits p i → All (SendFits p) (item_sends contexts i)
sends-fit p contexts (Event channel event) fit = event-sends_fit p channel event fit
sends-fit p contexts (Time t) fit = times-fit p contexts t fit

-- where it goes to a slot
pub item-sends_fit : (p : Program) (contexts : ℕ) (i : Item) → ItemFits p i → All (SendFits p) (slots_only contexts (item_sends contexts i))
item-sends_fit p contexts i fit = All-filter (λ (x : Sent Cargo). nat_lt x.target contexts) (SendFits p) (item_sends contexts i) (sends-fit p contexts i fit)

-- loads of monitors that are there
pub loads-fit : (p : Program) (n : ℕ) → n ≤ length p.monitors → All (SendFits p) (loads_below n)
loads-fit p zero le = All-nil (SendFits p)
loads-fit p (suc n) le =
    let before : n ≤ length p.monitors = omega arith in
    let there : n < length p.monitors = omega arith in
    All-push (SendFits p) (loads_below n) (record { target = 0; cargo = cargo.Load n }) (loads-fit p n before) there

-- each send costs one
few-ones : (contexts number : ℕ) (sent : List (Sent Cargo)) → total (entry_cost {C = Cargo} (λ d e. 1) contexts number) sent ≤ length sent
few-ones contexts number [] = omega arith
few-ones contexts number (x ∷ sent) = let more = few-ones contexts number sent in omega arith

few-slots : (contexts : ℕ) (sent : List (Sent Cargo)) → length (slots_only contexts sent) ≤ length sent
few-slots contexts [] = omega arith
few-slots contexts (x ∷ sent) = go (nat_lt x.target contexts) (few-slots contexts sent)
  where
    go : (b : Bool) → length (slots_only contexts sent) ≤ length sent → length (cond {A = List (Sent Cargo)} b (x ∷ slots_only contexts sent) (slots_only contexts sent)) ≤ suc (length sent)
    go true le = omega arith
    go false le = omega arith

times-count : (n : ℕ) (t : ℤ) → length (times_below n t) ≡ n
times-count zero t = refl
times-count (suc n) t = let before = times-count n t in let more = length-append (times_below n t) ((record { target = n; cargo = cargo.Time t }) ∷ []) in omega arith

-- an item sends an entry to each context at most, or one
few-sends : (contexts : ℕ) (i : Item) → length (item_sends contexts i) ≤ suc contexts
few-sends contexts (Event [] event) = omega arith
few-sends contexts (Event (b ∷ channel) event) = omega arith
few-sends contexts (Time t) = let count = times-count contexts t in omega arith

item-pays : (contexts number : ℕ) (i : Item) → total (entry_cost {C = Cargo} (λ d e. 1) contexts number) (slots_only contexts (item_sends contexts i)) ≤ suc contexts
item-pays contexts number i =
    let ones = few-ones contexts number (slots_only contexts (item_sends contexts i)) in
    let slots = few-slots contexts (item_sends contexts i) in
    let sends = few-sends contexts i in
    omega arith

-- what waits is a measure: a context sends nothing, and an item no more than its cost
pub measure : (p : Program) (settings : Settings) → IsMeasure (actors_of p settings) (IsJoinedLog settings.contexts) weight (cost settings.contexts)
measure p settings =
    joined-measure settings.contexts (slots_of p settings) (reader_of p settings.contexts) (λ c. 0) (λ r. 0) (λ d e. 1) (λ i. settings.contexts + 2) (record { pays = λ d log e lt alive. omega arith })
    (record { entry = λ steps e. omega arith; item = λ steps i number. let few = item-pays settings.contexts number i in omega arith })
