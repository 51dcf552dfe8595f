-- Boot is the run over no items, and has a record.
use Rattle.std.proofs.Common.{◌≡◌, ◌+◌, ◌≤◌, ◌<◌, ◌∷◌, ◌++◌, ◌==◌, ◌⊎◌}
use Rattle.std.proofs.lemmas.Option.{slice_get-map, slice_get_past}
use Rattle.std.specs.Option.{option_map}
use Rattle.naive_meaning.proofs.Common.{ℕ, zero, suc, List, [], Bool, true, false, cond, Some, None, IfSome, refl, sym, ◌∙◌, ap, subst, arith, inl, inr, map, length, slice_get, cases_eq, cases_lt, eqb-true, eqb-false, Entry, Handled, ReaderStep, Cargo, Item, Program, Settings, Context, ContextRecord, Record, World, by, mail, number_after, numbers_along, lifted, slot_after, step_entry, step_number, fresh, slots_of, reader_of, actors_of, loads_below, naive}
use Rattle.actor_theory.specs.declared.entry.ReaderStep.TheVariants as step
use Rattle.actor_theory.specs.Language.{first, loaded, replies}
use Rattle.std.proofs.lemmas.List.{length-map}
use Rattle.actor_theory.specs.World.{first_from, given, head_sender, is_open, other_sender, turn_sender, IsQuiet}
use Rattle.actor_theory.specs.Faithful.{IsBoot}
use Rattle.actor_theory.specs.Order.{left_of, ordered}
use Rattle.actor_theory.specs.Kept as kept
use Rattle.actor_theory.proofs.Given.{both-nil, sends-own}
use Rattle.actor_theory.proofs.Joining.{joined-quiet, mail-to_slots_none}
use Rattle.actor_theory.proofs.Keeping.{log-reader, queue-reader, log-slot, queue-slot}
use Rattle.actor_theory.proofs.Leaving.{ordered-nil}
use Rattle.actor_theory.proofs.Lists.{by-append}
use Rattle.actor_theory.proofs.Machining.{world-same}
use Rattle.actor_theory.proofs.Scheduled.{boot-run}
use Rattle.naive_meaning.specs.Records.{shown, slot_kept, kept_of, IsScheduled}
use Rattle.naive_meaning.proofs.Bearing.{AllCargo, all-append, all-back, all-by, all-front, all-lifted, replies-past, sends-all}
use Rattle.naive_meaning.proofs.Carried.{cargoes}
use Rattle.naive_meaning.proofs.Parts.{after-same}

-- entries handled under their numbers, by a context and by the reader
abbrev numbered : ℕ → List (Entry Cargo) → List (Handled Cargo)
numbered last [] = []
numbered last (e ∷ es) = (record { entry = e; number = number_after last e }) ∷ numbered (number_after last e) es

-- entries taken by the reader under their numbers
abbrev pub taken : ℕ → List (Entry Cargo) → List (ReaderStep Item Cargo)
taken last [] = []
taken last (e ∷ es) = step.Entry e (number_after last e) ∷ taken (number_after last e) es

-- their entries are these
numbered-entries : (last : ℕ) (es : List (Entry Cargo)) → map kept.entry_of (numbered last es) ≡ es
numbered-entries last [] = refl
numbered-entries last (e ∷ es) = ap (λ xs. e ∷ xs) (numbered-entries (number_after last e) es)

-- their numbers are those of a log
numbered-numbers : (last : ℕ) (es : List (Entry Cargo)) → map kept.number_of (numbered last es) ≡ numbers_along last es
numbered-numbers last [] = refl
numbered-numbers last (e ∷ es) = ap (λ ns. number_after last e ∷ ns) (numbered-numbers (number_after last e) es)

-- the entries of such steps are these
taken-entries : (k last : ℕ) (es : List (Entry Cargo)) → map (step_entry k) (taken last es) ≡ map lifted es
taken-entries k last [] = refl
taken-entries k last (e ∷ es) = ap (λ (xs : List (Entry (Cargo ⊎ Item))). lifted e ∷ xs) (taken-entries k (number_after last e) es)

-- their numbers are those of a log
taken-numbers : (k last : ℕ) (es : List (Entry Cargo)) → map step_number (taken last es) ≡ numbers_along last (map (step_entry k) (taken last es))
taken-numbers k last [] = refl
taken-numbers k last (e ∷ es) = ap (λ ns. number_after last e ∷ ns) (taken-numbers k (number_after last e) es)

-- the parts of so many slots from this one on
abbrev parts : (ℕ → ContextRecord) → ℕ → ℕ → List ContextRecord
parts part slot zero = []
parts part slot (suc n) = part slot ∷ parts part (suc slot) n

-- there are so many
parts-length : (part : ℕ → ContextRecord) (slot n : ℕ) → length (parts part slot n) ≡ n
parts-length part slot zero = refl
parts-length part slot (suc n) = ap suc (parts-length part (suc slot) n)

-- the part at a place
parts-at : (part : ℕ → ContextRecord) (slot n k : ℕ) → k < n → slice_get (parts part slot n) k ≡ Some (part (slot + k))
parts-at part slot zero k lt = absurd (omega arith)
parts-at part slot (suc n) zero lt = let same : slot ≡ slot + 0 = omega arith in ap (λ s. Some (part s)) same
parts-at part slot (suc n) (suc k) lt = let same : suc slot + k ≡ slot + suc k = omega arith in parts-at part (suc slot) n k (omega arith) ∙ ap (λ s. Some (part s)) same

module _ (p : Program) (settings : Settings) (boot : World (Cargo ⊎ Item)) where
  -- what boot leaves
  abbrev lefts : ℕ → List (Entry (Cargo ⊎ Item))
  lefts d = left_of (actors_of p settings) boot d

  -- the part of a slot
  abbrev boot_part : ℕ → ContextRecord
  boot_part slot = record {
    lines = (naive p settings slot (cargoes (boot.log slot))).lines;
    handled = numbered 0 (cargoes (boot.log slot));
    left = cargoes (lefts slot);
    spent = (naive p settings slot (cargoes (boot.log slot))).spent;
  }

  -- the record of boot
  abbrev pub boot_record : Record
  boot_record = record { settings = settings; contexts = parts boot_part 0 settings.contexts; reader = record { steps = taken 0 (cargoes (boot.log settings.contexts)); left = cargoes (lefts settings.contexts) } }

  -- it has a part for each slot
  pub boot-count : length boot_record.contexts ≡ settings.contexts
  boot-count = parts-length boot_part 0 settings.contexts

  -- the part of a slot is there
  slot-here : (d : ℕ) → d < settings.contexts → slice_get (kept_of boot_record).slots d ≡ Some (slot_kept (boot_part d))
  slot-here d lt =
      let same : 0 + d ≡ d = omega arith in
      slice_get-map slot_kept (parts boot_part 0 settings.contexts) d ∙ ap (option_map slot_kept) (parts-at boot_part 0 settings.contexts d lt ∙ ap (λ s. Some (boot_part s)) same)

  -- past the slots there is none
  slot-past : (d : ℕ) → settings.contexts ≤ d → slice_get (kept_of boot_record).slots d ≡ None
  slot-past d le = let count = parts-length boot_part 0 settings.contexts in slice_get-map slot_kept (parts boot_part 0 settings.contexts) d ∙ ap (option_map slot_kept) (slice_get_past (parts boot_part 0 settings.contexts) d (omega arith))

  -- all that boot has sent are cargoes
  boot-all : IsBoot (actors_of p settings) boot → (d : ℕ) → AllCargo (boot.log d ++ boot.queue d)
  boot-all h d =
      let run = boot-run (actors_of p settings) boot h in
      let P : List (Entry (Cargo ⊎ Item)) → Type 0 = AllCargo in
      all-by (boot.log d ++ boot.queue d) (λ s. subst P (sym (run.each s d)) (sends-all settings.contexts (slots_of p settings) (reader_of p settings.contexts) s d (boot.log s)))

  -- no entry of a log is lost
  pub log-kept : IsBoot (actors_of p settings) boot → (d : ℕ) → map lifted (cargoes (boot.log d)) ≡ boot.log d
  log-kept h d = all-lifted (boot.log d) (all-front (boot.log d) (boot.queue d) (boot-all h d))

  -- cargoes by sender are cargoes
  ordered-all : (n : ℕ) (q : List (Entry (Cargo ⊎ Item))) → AllCargo q → AllCargo (ordered n q)
  ordered-all zero q a = tt
  ordered-all (suc n) q a = all-append (ordered n q) (by n q) (ordered-all n q a) (by-all n q a)
    where
      by-all : (n : ℕ) (q : List (Entry (Cargo ⊎ Item))) → AllCargo q → AllCargo (by n q)
      by-all n [] a = tt
      by-all n (e ∷ es) a = here (by-all n es a.1) (e.sender == n)
        where
          here : AllCargo (by n es) → (b : Bool) → AllCargo (cond b (e ∷ by n es) (by n es))
          here ih true = (a.0, ih)
          here ih false = ih

  -- nothing that is left is lost
  left-kept : IsBoot (actors_of p settings) boot → (d : ℕ) → map lifted (cargoes (lefts d)) ≡ lefts d
  left-kept h d = all-lifted (lefts d) (ordered-all (suc settings.contexts) (boot.queue d) (all-back (boot.log d) (boot.queue d) (boot-all h d)))

  -- nothing is queued for what is no actor
  queue-past : IsBoot (actors_of p settings) boot → (d : ℕ) → settings.contexts < d → boot.queue d ≡ []
  queue-past h d lt =
      let run = boot-run (actors_of p settings) boot h in
      nothing (boot.queue d) (λ s. (both-nil (by s (boot.log d)) (by s (boot.queue d)) (sym (by-append s (boot.log d) (boot.queue d)) ∙ run.each s d ∙ none s (s == settings.contexts))).1)
    where
      none : (s : ℕ) (b : Bool) → mail s 0 d (cond b (loaded (actors_of p settings) []) []) ++ replies (actors_of p settings) s d (first (actors_of p settings) s) (boot.log s) ≡ []
      none s true = ap (λ xs. xs ++ replies (actors_of p settings) s d (first (actors_of p settings) s) (boot.log s)) (mail-to_slots_none settings.contexts s 0 d (loads_below (length p.monitors)) (omega arith)) ∙ replies-past settings.contexts (slots_of p settings) (reader_of p settings.contexts) s d (first (actors_of p settings) s) (boot.log s) lt
      none s false = replies-past settings.contexts (slots_of p settings) (reader_of p settings.contexts) s d (first (actors_of p settings) s) (boot.log s) lt

      nothing : (q : List (Entry (Cargo ⊎ Item))) → ((s : ℕ) → by s q ≡ []) → q ≡ []
      nothing [] h = refl
      nothing (e ∷ es) h = here (e.sender == e.sender) refl (h e.sender)
        where
          here : (b : Bool) → (e.sender == e.sender) ≡ b → cond b (e ∷ by e.sender es) (by e.sender es) ≡ [] → e ∷ es ≡ []
          here true i j = absurd (cc)
          here false i j = absurd (eqb-false e.sender e.sender i refl)

  -- the record says what naive evaluation says
  slot-naive : (d : ℕ) → kept.IsNaive (slots_of p settings) shown d (slot_kept (boot_part d))
  slot-naive d =
      let log : List (Entry Cargo) = cargoes (boot.log d) in
      let entries : kept.log_of (slot_kept (boot_part d)) ≡ log = numbered-entries 0 log in
      let A = slots_of p settings in
      record {
        shown = ap (λ (c : Context). c.lines) (after-same p settings (fresh d settings.contexts settings.fuel) 0 log) ∙ ap (λ l. (slot_after A (A.start d) 0 l).lines) (sym entries);
        numbers = numbered-numbers 0 log ∙ ap (numbers_along 0) (sym entries);
        spent = ap (λ (c : Context). c.spent) (after-same p settings (fresh d settings.contexts settings.fuel) 0 log) ∙ ap (λ l. (slot_after A (A.start d) 0 l).spent) (sym entries);
      }

  -- so does the whole record
  boot-naive : kept.IsNaiveKept settings.contexts (slots_of p settings) shown (kept_of boot_record)
  boot-naive = record {
    count = length-map (parts boot_part 0 settings.contexts) slot_kept ∙ parts-length boot_part 0 settings.contexts;
    slots = λ d. there d (cases_lt d settings.contexts);
    numbers = taken-numbers settings.contexts 0 (cargoes (boot.log settings.contexts));
  }
    where
      there : (d : ℕ) → ((d < settings.contexts) ⊎ (settings.contexts ≤ d)) → IfSome (slice_get (kept_of boot_record).slots d) (kept.IsNaive (slots_of p settings) shown d)
      there d (inl lt) = rw (slot-here d lt) (slot-naive d)
      there d (inr le) = rw (slot-past d le) tt

  -- the logs of the record are those of boot
  pub boot-logs : IsBoot (actors_of p settings) boot → (d : ℕ) → (kept.world_of_kept settings.contexts (kept_of boot_record)).log d ≡ boot.log d
  boot-logs h d = go (cases_lt d settings.contexts)
    where
      go : ((d < settings.contexts) ⊎ (settings.contexts ≤ d)) → (kept.world_of_kept settings.contexts (kept_of boot_record)).log d ≡ boot.log d
      go (inl lt) =
          log-slot settings.contexts (kept_of boot_record) d (λ i. omega arith) ∙ ap kept.slot_log (slot-here d lt) ∙ ap (map lifted) (numbered-entries 0 (cargoes (boot.log d))) ∙ log-kept h d
      go (inr le) = past (cases_eq d settings.contexts)
        where
          past : ((d ≡ settings.contexts) ⊎ (d ≡ settings.contexts → ⊥)) → (kept.world_of_kept settings.contexts (kept_of boot_record)).log d ≡ boot.log d
          past (inl at) = rw at (log-reader settings.contexts (kept_of boot_record) ∙ taken-entries settings.contexts 0 (cargoes (boot.log settings.contexts)) ∙ log-kept h settings.contexts)
          past (inr other) =
              log-slot settings.contexts (kept_of boot_record) d other ∙ ap kept.slot_log (slot-past d le) ∙ sym ((boot-run (actors_of p settings) boot h).others d (omega arith))

  -- and so is what is left
  boot-lefts : IsBoot (actors_of p settings) boot → (d : ℕ) → (kept.world_of_kept settings.contexts (kept_of boot_record)).queue d ≡ lefts d
  boot-lefts h d = go (cases_lt d settings.contexts)
    where
      go : ((d < settings.contexts) ⊎ (settings.contexts ≤ d)) → (kept.world_of_kept settings.contexts (kept_of boot_record)).queue d ≡ lefts d
      go (inl lt) = queue-slot settings.contexts (kept_of boot_record) d (λ i. omega arith) ∙ ap kept.slot_left (slot-here d lt) ∙ left-kept h d
      go (inr le) = past (cases_eq d settings.contexts)
        where
          past : ((d ≡ settings.contexts) ⊎ (d ≡ settings.contexts → ⊥)) → (kept.world_of_kept settings.contexts (kept_of boot_record)).queue d ≡ lefts d
          past (inl at) = rw at (queue-reader settings.contexts (kept_of boot_record) ∙ left-kept h settings.contexts)
          past (inr other) =
              queue-slot settings.contexts (kept_of boot_record) d other ∙ ap kept.slot_left (slot-past d le)
              ∙ sym (ap (ordered (suc settings.contexts)) (queue-past h d (omega arith)) ∙ ordered-nil (suc settings.contexts))

  -- no item is there, so a round in which the reader takes items handles nothing either
  boot-quiet : IsBoot (actors_of p settings) boot → IsQuiet (actors_of p settings) true boot
  boot-quiet h d = go (is_open (actors_of p settings) boot d) (h.quiet d)
    where
      k : ℕ
      k = settings.contexts

      own_none : by k (boot.queue k) ≡ []
      own_none =
          let run = boot-run (actors_of p settings) boot h in
          (both-nil (by k (boot.log k)) (by k (boot.queue k)) (sym (by-append k (boot.log k) (boot.queue k)) ∙ run.each k k ∙ sends-own (actors_of p settings) [] (boot.log k) (joined-quiet k (slots_of p settings) (reader_of p settings.contexts)))).1

      same : (q : List (Entry (Cargo ⊎ Item))) → by k q ≡ [] → first_from (other_sender k (k + 1) q) q ≡ None → first_from (other_sender k k q) q ≡ None
      same [] i j = refl
      same (e ∷ es) i j = here (e.sender == k) i j
        where
          here : (b : Bool) → cond b (e ∷ by k es) (by k es) ≡ [] → first_from (cond b (other_sender k (k + 1) es) e.sender) (e ∷ es) ≡ None → first_from (cond b (other_sender k k es) e.sender) (e ∷ es) ≡ None
          here true i j = absurd (cc)
          here false i j = j

      turn : (b : Bool) → (d == k) ≡ b → first_from (cond b (other_sender d (k + 1) (boot.queue d)) (head_sender (k + 1) (boot.queue d))) (boot.queue d) ≡ None
          → first_from (cond b (other_sender d d (boot.queue d)) (head_sender (k + 1) (boot.queue d))) (boot.queue d) ≡ None
      turn true i = let at : d ≡ k = eqb-true d k i in rw at (same (boot.queue k) own_none)
      turn false i = λ j. j

      go : (b : Bool) → cond b (first_from (turn_sender k false d (boot.queue d)) (boot.queue d)) None ≡ None → cond b (first_from (turn_sender k true d (boot.queue d)) (boot.queue d)) None ≡ None
      go true j = turn (d == k) refl j
      go false j = refl

  -- boot's record is that of the run over no items
  pub boot-scheduled : IsBoot (actors_of p settings) boot → IsScheduled p [] settings [] boot_record
  boot-scheduled h = record {
    same_settings = refl;
    scheduled = record {
      world = boot;
      scheduled = record { boot = boot; booted = h; finished = record { count = 0; reached = sym given_none; quiet = boot-quiet h } };
      is_kept = record { naive = boot-naive; logs = boot-logs h; lefts = boot-lefts h };
    };
  }
    where
      nobody : (b : Bool) (q : List (Entry (Cargo ⊎ Item))) → cond b [] [] ++ q ≡ q
      nobody true q = refl
      nobody false q = refl

      given_none : given (actors_of p settings) [] boot ≡ boot
      given_none = world-same (given (actors_of p settings) [] boot) boot (λ d. refl) (λ d. nobody (d == settings.contexts) (boot.queue d))
