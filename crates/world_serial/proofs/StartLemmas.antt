-- The parts at the start, and after boot.
use Rattle.std.proofs.Common.{◌≡◌, ◌+◌, ◌∷◌, ◌++◌, ◌⊎◌}
use Rattle.world_serial.proofs.Common.{ℕ, zero, suc, List, [], false, refl, sym, ◌∙◌, ap, subst, arith, length, slice_get, Entry, Cell, ReaderCell, world_of, Stand, Cargo}
use Rattle.std.specs.Prelude.{IfSome}
use Rattle.std.proofs.lemmas.List.{length-append, map-append}
use Rattle.actor_theory.specs.Joined.{slots_only}
use Rattle.actor_theory.specs.Machine.{delivered, empty_queues, fresh_cells, fresh_reader, loaded_queues, without_items}
use Rattle.actor_theory.specs.World.{World as Moment, IsFinished}
use Rattle.actor_theory.proofs.Beginning.{fresh-stand}
use Rattle.actor_theory.proofs.Looping.{machine-boot}
use Rattle.actor_theory.proofs.Queues.{length-arrived}
use Rattle.record_book.specs.Fits.{ItemsFit}
use Rattle.context_meaning.specs.Contexts.{Context}
use Rattle.naive_meaning.specs.Actors.{ReaderState, actors_of, loads_below, reader_of, slots_of}
use Rattle.context_core.specs.Cells.{fresh_part}
use Rattle.source_actor.specs.Steps as source
use Rattle.entry_queues.specs.Queued.{Gathers}
use Rattle.world_serial.specs.Common.{CellPart, Item, Program, ReaderPart, Settings}
use Rattle.world_serial.specs.declared.world.World.{World}
use Rattle.world_serial.specs.Serial.{CellStands, FinishesOn, IsBooted, IsFresh, IsStanding, Standing, cell_of, cells_in, fresh_handed, fresh_parts, moment_of}
use Rattle.world_serial.proofs.Delivery.{emptied-boxes, handed-over, length-empty}
use Rattle.world_serial.proofs.FittingLemmas.{given-fits}
use Rattle.world_serial.proofs.ItemLemmas.{part-same}

-- ---- cells

-- without their outboxes
fresh-cells : (p : Program) (settings : Settings) (n : ℕ) → cells_in (fresh_parts settings n) ≡ fresh_cells (slots_of p settings) n
fresh-cells p settings zero = refl
fresh-cells p settings (suc n) =
    let last : Cell Context Cargo = cell_of (fresh_part n settings) in
    map-append cell_of (fresh_parts settings n) (fresh_part n settings ∷ []) ∙ ap (λ (cs : List (Cell Context Cargo)). cs ++ last ∷ []) (fresh-cells p settings n)

length-parts : (settings : Settings) (n : ℕ) → length (fresh_parts settings n) ≡ n
length-parts settings zero = refl
length-parts settings (suc n) = let ih = length-parts settings n in let more = length-append (fresh_parts settings n) (fresh_part n settings ∷ []) in omega arith

-- one more of them
pub parts-more : (settings : Settings) (slot : ℕ) (cells cells' : List CellPart) (c : CellPart) → cells' ≡ cells ++ c ∷ [] → cells ≡ fresh_parts settings slot → c ≡ fresh_part slot settings → cells' ≡ fresh_parts settings (slot + 1)
parts-more settings slot cells cells' c pushed before fresh =
    let more : slot + 1 ≡ suc slot = omega arith in
    pushed ∙ ap (λ (cs : List CellPart). cs ++ c ∷ []) before ∙ ap (λ (d : CellPart). fresh_parts settings slot ++ d ∷ []) fresh ∙ ap (fresh_parts settings) (sym more)

-- what holds at each place holds there with one item more
each-push : {X : Type 0} (P : ℕ → X → Type 0) (xs : List X) (x : X) → P (length xs) x → ((k : ℕ) → IfSome (slice_get xs k) (P k)) → (k : ℕ) → IfSome (slice_get (xs ++ x ∷ []) k) (P k)
each-push P [] x h each zero = h
each-push P [] x h each (suc k) = tt
each-push P (y ∷ ys) x h each zero = each zero
each-push P (y ∷ ys) x h each (suc k) = each-push (λ j. P (suc j)) ys x h (λ j. each (suc j)) k

-- each stands in its slot
fresh-each : (settings : Settings) (n k : ℕ) → IfSome (slice_get (fresh_parts settings n) k) (CellStands settings.contexts k)
fresh-each settings zero k = tt
fresh-each settings (suc n) k =
    each-push (CellStands settings.contexts) (fresh_parts settings n) (fresh_part n settings) (record { slot = sym (length-parts settings n); outboxes = refl }) (fresh-each settings n) k

-- ---- the loads

pub loaded-count : (p : Program) (contexts actors : ℕ) (reader : ReaderPart) (items : List Item) (queued : List (List (Entry Cargo))) → actors ≡ contexts + 1 → queued ≡ empty_queues actors → reader ≡ source.fresh_part p contexts items → length reader.outboxes ≡ length queued
loaded-count p contexts actors reader items queued count empty fresh =
    let loaded : length (loaded_queues contexts (reader_of p contexts)) ≡ suc contexts = length-arrived contexts 0 (slots_only contexts (loads_below (length p.monitors))) 0 (empty_queues (suc contexts)) ∙ length-empty (suc contexts) in
    let boxes : length reader.outboxes ≡ length (loaded_queues contexts (reader_of p contexts)) = ap (λ (r : ReaderPart). length r.outboxes) fresh in
    let queues : length queued ≡ actors = ap length empty ∙ length-empty actors in
    omega arith

-- handed over they are the loaded queues, and the reader has handed over all
pub begins : (p : Program) (contexts actors : ℕ) (reader reader' : ReaderPart) (items : List Item) (queued queued' : List (List (Entry Cargo))) → actors ≡ contexts + 1 → queued ≡ empty_queues actors → items ≡ [] → reader ≡ source.fresh_part p contexts items
    → Gathers reader.outboxes queued reader'.outboxes queued' → (reader'.cell ≡ reader.cell) × (reader'.contexts ≡ reader.contexts) → (reader' ≡ fresh_handed p contexts) × (queued' ≡ loaded_queues contexts (reader_of p contexts))
begins p contexts actors reader reader' items queued queued' count empty none fresh gathers same =
    let more : actors ≡ suc contexts = omega arith in
    let is : queued ≡ empty_queues (suc contexts) = empty ∙ ap empty_queues more in
    let counted : length queued ≡ suc contexts = ap length is ∙ length-empty (suc contexts) in
    let boxes : length reader.outboxes ≡ suc contexts = loaded-count p contexts actors reader items queued count empty fresh ∙ counted in
    let sent : reader.outboxes ≡ loaded_queues contexts (reader_of p contexts) = ap (λ (r : ReaderPart). r.outboxes) fresh in
    let cell : reader'.cell ≡ fresh_reader (reader_of p contexts) [] = same.0 ∙ ap (λ (r : ReaderPart). r.cell) fresh ∙ ap (fresh_reader (reader_of p contexts)) none in (
      part-same reader' (fresh_handed p contexts) (same.1 ∙ ap (λ (r : ReaderPart). r.contexts) fresh) cell (emptied-boxes (suc contexts) reader.outboxes queued reader'.outboxes queued' gathers boxes),
      handed-over contexts 0 (suc contexts) (slots_only contexts (loads_below (length p.monitors))) reader.outboxes queued reader'.outboxes queued' gathers sent counted
          ∙ ap (delivered contexts 0 (slots_only contexts (loads_below (length p.monitors)))) is,
    )

-- ---- the parts

-- what the parts at the start are as cells of the machine
cells-are : (p : Program) (settings : Settings) (w : World) → IsFresh p settings w → cells_in w.cells.items ≡ fresh_cells (slots_of p settings) settings.contexts
cells-are p settings w h = ap cells_in h.cells_are ∙ fresh-cells p settings settings.contexts

-- the parts at the start stand
pub fresh-stands : (p : Program) (settings : Settings) (w : World) → IsFresh p settings w → IsStanding p settings w
fresh-stands p settings w h =
    let A : List (Cell Context Cargo) → ReaderCell ReaderState Cargo Item → List (List (Entry Cargo)) → Type 0 = Stand settings.contexts (slots_of p settings) (reader_of p settings.contexts) in
    let at_end : A (fresh_cells (slots_of p settings) settings.contexts) (fresh_reader (reader_of p settings.contexts) []) (loaded_queues settings.contexts (reader_of p settings.contexts)) = fresh-stand settings.contexts (slots_of p settings) (reader_of p settings.contexts) [] in
    let P : List (Cell Context Cargo) → Type 0 = λ cells. A cells (fresh_reader (reader_of p settings.contexts) []) (loaded_queues settings.contexts (reader_of p settings.contexts)) in
    let Q : ReaderPart → Type 0 = λ reader. A (cells_in w.cells.items) reader.cell (loaded_queues settings.contexts (reader_of p settings.contexts)) in
    let R : List (List (Entry Cargo)) → Type 0 = λ queued. A (cells_in w.cells.items) w.reader.cell queued in
    let E : List CellPart → Type 0 = λ cells. (k : ℕ) → IfSome (slice_get cells k) (CellStands settings.contexts k) in
    record {
      stand = subst R (sym h.queued_are) (subst Q (sym h.reader_is) (subst P (sym (cells-are p settings w h)) at_end));
      each = subst E (sym h.cells_are) (fresh-each settings settings.contexts);
      contexts = ap (λ (r : ReaderPart). r.contexts) h.reader_is;
      handed = ap (λ (r : ReaderPart). r.outboxes) h.reader_is;
    }

-- what they are as logs and queues
fresh-moment : (p : Program) (settings : Settings) (w : World) → IsFresh p settings w
    → moment_of settings.contexts w ≡ world_of settings.contexts (fresh_cells (slots_of p settings) settings.contexts) (fresh_reader (reader_of p settings.contexts) []) (loaded_queues settings.contexts (reader_of p settings.contexts))
fresh-moment p settings w h =
    ap (λ (cells : List (Cell Context Cargo)). world_of settings.contexts cells w.reader.cell w.queued.items) (cells-are p settings w h)
    ∙ ap (λ (reader : ReaderPart). world_of settings.contexts (fresh_cells (slots_of p settings) settings.contexts) reader.cell w.queued.items) h.reader_is
    ∙ ap (λ (queued : List (List (Entry Cargo))). world_of settings.contexts (fresh_cells (slots_of p settings) settings.contexts) (fresh_reader (reader_of p settings.contexts) []) queued) h.queued_are

-- the reader with these items to come
abbrev pub given_items : List Item → ReaderPart → ReaderPart
given_items items r = record r { cell = record r.cell { rest = items } }

-- the parts stand as well with them
given-stands : (p : Program) (settings : Settings) (cells : List CellPart) (reader : ReaderPart) (queued : List (List (Entry Cargo))) (items : List Item) → Standing p settings cells reader queued → Standing p settings cells (given_items items reader) queued
given-stands p settings cells reader queued items h = record {
  stand = record {
    cells_count = h.stand.cells_count;
    queues_count = h.stand.queues_count;
    cells_are = h.stand.cells_are;
    reader_is = record { state = h.stand.reader_is.state; number = h.stand.reader_is.number; numbers = h.stand.reader_is.numbers };
    from_others = h.stand.from_others;
  };
  each = h.each;
  contexts = h.contexts;
  handed = h.handed;
}

-- after boot's rounds the items are given
pub boots : (p : Program) (settings : Settings) (first last : World) (reader : ReaderPart) (items : List Item) → IsFresh p settings first → FinishesOn p settings false first last → reader ≡ given_items items last.reader → ItemsFit p items
    → IsBooted p settings items (record { cells = last.cells; reader = reader; queued = last.queued })
boots p settings first last reader items fresh finishes given fit =
    let contexts : ℕ = settings.contexts in
    let none : last.reader.cell.rest ≡ [] = finishes.waits refl ∙ ap (λ (r : ReaderPart). r.cell.rest) fresh.reader_is in
    let emptied : record last.reader.cell { rest = [] } ≡ last.reader.cell = ap (λ (is : List Item). record last.reader.cell { rest = is }) (sym none) in
    let same : without_items reader.cell ≡ last.reader.cell = ap (λ (r : ReaderPart). without_items r.cell) given ∙ emptied in
    let to : moment_of contexts last ≡ world_of contexts (cells_in last.cells.items) (without_items reader.cell) last.queued.items =
    ap (λ (r : ReaderCell ReaderState Cargo Item). world_of contexts (cells_in last.cells.items) r last.queued.items) (sym same) in
    let F : Moment (Cargo ⊎ Item) → Moment (Cargo ⊎ Item) → Type 0 = IsFinished (actors_of p settings) false in
    let P : Moment (Cargo ⊎ Item) → Type 0 = λ m. F m (moment_of contexts last) in
    let Q : Moment (Cargo ⊎ Item) → Type 0 = λ m. F (world_of contexts (fresh_cells (slots_of p settings) contexts) (fresh_reader (reader_of p contexts) []) (loaded_queues contexts (reader_of p contexts))) m in
    let finished = subst Q to (subst P (fresh-moment p settings first fresh) finishes.finished) in
    let items_are : reader.cell.rest ≡ items = ap (λ (r : ReaderPart). r.cell.rest) given in
    let fits = given-fits p last.cells.items last.reader.cell.rest reader.cell.rest last.queued.items finishes.fitting (subst (ItemsFit p) (sym items_are) fit) in
    record {
      standing = subst (λ (r : ReaderPart). Standing p settings last.cells.items r last.queued.items) (sym given) (given-stands p settings last.cells.items last.reader last.queued.items items finishes.standing);
      fitting = fits;
      boot = machine-boot contexts (slots_of p settings) (reader_of p settings.contexts) (cells_in last.cells.items) reader.cell last.queued.items finished;
      items_are = items_are;
    }
