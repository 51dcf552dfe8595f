-- The record at the end.
use Rattle.world_serial.proofs.Common.{ℕ, zero, suc, List, [], Bool, true, false, cond, refl, sym, ◌∙◌, ap, subst, arith, map, length, Entry, queue_at, Cargo}
use Rattle.std.proofs.lemmas.List.{length-map}
use Rattle.world_serial.specs.Common.{Program, Item, CellPart}
use Rattle.world_serial.specs.declared.world.World.{World}
use Rattle.naive_meaning.specs.Actors.{slots_of, reader_of}
use Rattle.std.proofs.Common.{◌≡◌, ◌+◌, ◌<◌, ◌≤◌, ◌∷◌, ◌++◌, not, ◌==◌, drop, append_assoc}
use Rattle.std.proofs.lemmas.Bool.{eqb-true}
use Rattle.actor_theory.specs.Language.{by}
use Rattle.actor_theory.specs.Order.{ordered}
use Rattle.actor_theory.specs.Kept as kept
use Rattle.actor_theory.specs.Machine.{slots_kept, kept_of}
use Rattle.actor_theory.proofs.Looping.{machine-scheduled}
use Rattle.actor_theory.proofs.Keeping.{scheduled-kept}
use Rattle.record_book.specs.declared.cargo.Line.{Line}
use Rattle.record_book.specs.declared.record.ContextRecord.{ContextRecord}
use Rattle.record_book.specs.declared.record.ReaderRecord.{ReaderRecord}
use Rattle.record_book.specs.declared.record.Record.{Record}
use Rattle.record_book.specs.declared.record.Settings.{Settings}
use Rattle.naive_meaning.specs.Records as records
use Rattle.context_core.specs.Cells.{record_of}
use Rattle.world_serial.specs.Queued.{but, first_queue, records_of}
use Rattle.world_serial.specs.Serial.{record_of_world, cell_of, cells_in, moment_of, IsBooted, FinishesOn}

-- a sender's entries aren't among those of another
pub by-but : (s t : ℕ) (q : List (Entry Cargo)) → (s ≡ t → ⊥) → by s (but t q) ≡ by s q
by-but s t [] other = refl
by-but s t (e ∷ es) other = go (by-but s t es other) (e.sender == t) (e.sender == s) refl refl
  where
    go : by s (but t es) ≡ by s es → (b c : Bool) → (e.sender == t) ≡ b → (e.sender == s) ≡ c → by s (cond (not b) (e ∷ but t es) (but t es)) ≡ cond c (e ∷ by s es) (by s es)
    go ih true true eq eq' = absurd (other (sym (eqb-true e.sender s eq') ∙ eqb-true e.sender t eq))
    go ih true false eq eq' = ih
    go ih false true eq eq' = rw eq' (ap (λ (xs : List (Entry Cargo)). e ∷ xs) ih)
    go ih false false eq eq' = rw eq' ih

-- one more sender
pub senders-more : (n : ℕ) (q waiting waiting' left left' : List (Entry Cargo)) → left ≡ ordered n q → ((s : ℕ) → n ≤ s → by s waiting ≡ by s q) → left' ≡ left ++ by n waiting → waiting' ≡ but n waiting
    → (left' ≡ ordered (n + 1) q) × ((s : ℕ) → n + 1 ≤ s → by s waiting' ≡ by s q)
senders-more n q waiting waiting' left left' taken waits moved others =
    let more : n + 1 ≡ suc n = omega arith in (
      moved ∙ ap (λ (xs : List (Entry Cargo)). xs ++ by n waiting) taken ∙ ap (λ (xs : List (Entry Cargo)). ordered n q ++ xs) (waits n (omega arith)) ∙ ap (λ k. ordered k q) (sym more),
      λ s le. let other : s ≡ n → ⊥ = λ i. omega arith in ap (by s) others ∙ by-but s n waiting other ∙ waits s (omega arith),
    )

-- the queues from one on
queues-from : (k : ℕ) (queued : List (List (Entry Cargo))) → k < length queued → drop k queued ≡ queue_at queued k ∷ drop (suc k) queued
queues-from k [] lt = absurd (omega arith)
queues-from zero (q ∷ qs) lt = refl
queues-from (suc k) (q ∷ qs) lt = queues-from k qs (omega arith)

first-at : (k : ℕ) (queued : List (List (Entry Cargo))) → first_queue (drop k queued) ≡ queue_at queued k
first-at k [] = go k
  where
    go : (n : ℕ) → first_queue (drop n []) ≡ []
    go zero = refl
    go (suc n) = refl
first-at zero (q ∷ qs) = refl
first-at (suc k) (q ∷ qs) = first-at k qs

-- the reader's queue is left when those of the cells are taken
pub reader-left : (contexts : ℕ) (cells : List CellPart) (queued rest : List (List (Entry Cargo))) (left : List (Entry Cargo)) → length cells ≡ contexts → rest ≡ drop (length cells) queued → left ≡ ordered (contexts + 1) (first_queue rest)
    → left ≡ ordered (suc contexts) (queue_at queued contexts)
reader-left contexts cells queued rest left count dropped is =
    let more : contexts + 1 ≡ suc contexts = omega arith in
    is ∙ ap (λ qs. ordered (contexts + 1) (first_queue qs)) dropped ∙ ap (λ n. ordered (contexts + 1) (first_queue (drop n queued))) count ∙ ap (λ q. ordered (contexts + 1) q) (first-at contexts queued)
    ∙ ap (λ n. ordered n (queue_at queued contexts)) more

-- one more record
pub records-more : (contexts : ℕ) (made made' all : List ContextRecord) (cells cells' : List CellPart) (queued queued' d : List (List (Entry Cargo))) (c : CellPart) (q left : List (Entry Cargo)) (r : ContextRecord)
    → cells ≡ c ∷ cells' → queued ≡ q ∷ queued' → left ≡ ordered (contexts + 1) q → r ≡ record_of c left → made' ≡ made ++ r ∷ [] → made ++ records_of contexts cells queued ≡ all → drop (length cells) queued ≡ d → length cells ≤ length queued
    → (made' ++ records_of contexts cells' queued' ≡ all) × (drop (length cells') queued' ≡ d) × (length cells' ≤ length queued')
records-more contexts made made' all cells cells' queued queued' d c q left r cells_are queued_are left_is r_is pushed so_far rest enough =
    let more : contexts + 1 ≡ suc contexts = omega arith in
    let counted = ap length cells_are in
    let counted' = ap length queued_are in
    let made_is : r ≡ record_of c (ordered (suc contexts) q) = r_is ∙ ap (record_of c) (left_is ∙ ap (λ n. ordered n q) more) in
    let front : made' ++ records_of contexts cells' queued' ≡ made ++ r ∷ records_of contexts cells' queued' =
    ap (λ (xs : List ContextRecord). xs ++ records_of contexts cells' queued') pushed ∙ append_assoc made (r ∷ []) (records_of contexts cells' queued') in
    let whole : r ∷ records_of contexts cells' queued' ≡ records_of contexts cells queued =
    ap (λ (x : ContextRecord). x ∷ records_of contexts cells' queued') made_is ∙ sym (ap (λ cs. records_of contexts cs queued) cells_are ∙ ap (records_of contexts (c ∷ cells')) queued_are) in (
      front ∙ ap (λ (xs : List ContextRecord). made ++ xs) whole ∙ so_far,
      sym (ap (λ cs. drop (length cs) queued) cells_are ∙ ap (drop (suc (length cells'))) queued_are) ∙ rest,
      omega arith,
    )

-- the record of the parts, as it is made
pub world-record : (settings : Settings) (w : World) (cells : List CellPart) (queued rest : List (List (Entry Cargo))) (made : List ContextRecord) (left : List (Entry Cargo)) (of_reader : ReaderRecord) → length w.cells.items ≡ settings.contexts
    → cells ≡ w.cells.items → queued ≡ w.queued.items → made ≡ records_of settings.contexts cells queued → rest ≡ drop (length cells) queued → left ≡ ordered (settings.contexts + 1) (first_queue rest) → of_reader ≡ record { steps = w.reader.cell.steps; left = left }
    → ◌≡◌ {A = Record} (record { settings = settings; contexts = made; reader = of_reader }) (record_of_world settings w)
world-record settings w cells queued rest made left of_reader count cells_are queued_are made_is rest_is left_is reader_is =
    let counted : length cells ≡ settings.contexts = ap length cells_are ∙ count in
    let contexts_are : made ≡ records_of settings.contexts w.cells.items w.queued.items =
    made_is ∙ ap (λ cs. records_of settings.contexts cs queued) cells_are ∙ ap (records_of settings.contexts w.cells.items) queued_are in
    let left_are = reader-left settings.contexts cells queued rest left counted rest_is left_is ∙ ap (λ qs. ordered (suc settings.contexts) (queue_at qs settings.contexts)) queued_are in
    let readers_are : of_reader ≡ record { steps = w.reader.cell.steps; left = ordered (suc settings.contexts) (queue_at w.queued.items settings.contexts) } =
    reader_is ∙ ap (λ (xs : List (Entry Cargo)). record { steps = w.reader.cell.steps; left = xs }) left_are in
    ap (λ (cs : List ContextRecord). with_parts cs of_reader) contexts_are ∙ ap (with_parts (records_of settings.contexts w.cells.items w.queued.items)) readers_are
  where
    with_parts : List ContextRecord → ReaderRecord → Record
    with_parts cs rr = record { settings = settings; contexts = cs; reader = rr }

-- the records of the cells are what is kept of them
kept-slots : (p : Program) (settings : Settings) (contexts k : ℕ) (cells : List CellPart) (queued : List (List (Entry Cargo))) → k + length cells ≤ length queued
    → map records.slot_kept (records_of contexts cells (drop k queued)) ≡ slots_kept contexts (slots_of p settings) records.shown queued k (cells_in cells)
kept-slots p settings contexts k [] queued le = refl
kept-slots p settings contexts k (c ∷ cs) queued le =
    let lt : k < length queued = omega arith in
    ap (λ qs. map records.slot_kept (records_of contexts (c ∷ cs) qs)) (queues-from k queued lt)
    ∙ ap (λ (xs : List (kept.SlotKept (List Line) Cargo)). records.slot_kept (record { lines = c.cell.state.lines; handled = c.cell.log; left = ordered (suc contexts) (queue_at queued k); spent = c.cell.state.spent }) ∷ xs) (kept-slots p settings contexts (suc k) cs queued (omega arith))

-- what is kept of the record of the parts
kept-world : (p : Program) (settings : Settings) (w : World) → length w.cells.items ≤ length w.queued.items
    → records.kept_of (record_of_world settings w) ≡ kept_of settings.contexts (slots_of p settings) records.shown (cells_in w.cells.items) w.reader.cell w.queued.items
kept-world p settings w le =
    let enough : 0 + length w.cells.items ≤ length w.queued.items = omega arith in
    ap (λ (slots : List (kept.SlotKept (List Line) Cargo)). with_slots slots) (kept-slots p settings settings.contexts 0 w.cells.items w.queued.items enough)
  where
    with_slots : List (kept.SlotKept (List Line) Cargo) → kept.Kept (List Line) Cargo Item
    with_slots slots = record { slots = slots; steps = w.reader.cell.steps; left = ordered (suc settings.contexts) (queue_at w.queued.items settings.contexts) }

-- the record at the end is the scheduled one
pub ends-scheduled : (p : Program) (items : List Item) (settings : Settings) (booted last : World) (r : Record) → IsBooted p settings items booted → FinishesOn p settings true booted last → r ≡ record_of_world settings last
    → records.IsScheduled p items settings [] r
ends-scheduled p items settings booted last r boot finishes is =
    let contexts = settings.contexts in
    let same = length-map last.cells.items cell_of in
    let cells = finishes.standing.stand.cells_count in
    let queues = finishes.standing.stand.queues_count in
    let enough : length last.cells.items ≤ length last.queued.items = omega arith in
    let scheduled = machine-scheduled contexts (slots_of p settings) (reader_of p settings.contexts) records.shown [] (cells_in booted.cells.items) booted.reader.cell booted.queued.items (moment_of contexts booted) (cells_in last.cells.items) last.reader.cell last.queued.items boot.boot refl finishes.finished
    finishes.standing.stand in
    let P : List Item → Type 0 = λ its. kept.IsScheduled contexts (slots_of p settings) (reader_of p settings.contexts) records.shown its [] (kept_of contexts (slots_of p settings) records.shown (cells_in last.cells.items) last.reader.cell last.queued.items) in
    let Q : kept.Kept (List Line) Cargo Item → Type 0 = λ k. kept.IsScheduled contexts (slots_of p settings) (reader_of p settings.contexts) records.shown items [] k in
    record {
      same_settings = ap (λ (x : Record). x.settings) is;
      scheduled = subst Q (sym (ap records.kept_of is ∙ kept-world p settings last enough)) (subst P boot.items_are scheduled);
    }

-- and so it is faithful
pub scheduled-faithful : (p : Program) (items : List Item) (settings : Settings) (r : Record) → records.IsScheduled p items settings [] r → records.IsFaithful p items settings r
scheduled-faithful p items settings r h = record {
  same_settings = h.same_settings;
  faithful = scheduled-kept settings.contexts (slots_of p settings) (reader_of p settings.contexts) records.shown items [] (records.kept_of r) h.scheduled;
}

-- how many cells there are
pub cells-counted : (p : Program) (settings : Settings) (takes : Bool) (from last : World) → FinishesOn p settings takes from last → length last.cells.items ≡ settings.contexts
cells-counted p settings takes from last finishes = sym (length-map last.cells.items cell_of) ∙ finishes.standing.stand.cells_count
