-- What is faithful in a record's own words is faithful in the theory.
use Rattle.std.proofs.Common.{◌≡◌, ◌≤◌, ◌<◌, ◌∷◌, ◌++◌, ◌==◌, ◌⊎◌}
use Rattle.std.specs.List.{AllByRecursion}
use Rattle.std.proofs.lemmas.List.{length-map, map-append}
use Rattle.std.proofs.lemmas.Option.{slice_get_past}
use Rattle.naive_meaning.proofs.Common.{ℕ, suc, List, [], Bool, true, false, cond, Some, None, IfSome, refl, sym, ◌∙◌, ap, subst, arith, append-nil, inl, inr, map, length, slice_get, cases_eq, cases_lt, eqb-true, eq-eqb, ne_eqb, Entry, ReaderStep, Cargo, Item, Program, Settings, Context, ContextRecord, Record, by, mail, replies, numbers_along, lifted, own, items_of, step_entry, step_number, fresh, slots_of, reader_of, actors_of, loads_below, entries_of, log_of, part_at, received}
use Rattle.actor_theory.specs.declared.entry.ReaderStep.TheVariants as step
use Rattle.actor_theory.specs.Faithful.{BeginsWithBoot, IsPrefix}
use Rattle.actor_theory.specs.Joined.{slots_only, to_slots}
use Rattle.actor_theory.specs.Kept as kept
use Rattle.actor_theory.specs.Language.{before, first, loaded, sends as all_sends, to_self}
use Rattle.actor_theory.proofs.Beside.{begins-more}
use Rattle.actor_theory.proofs.Given.{mail-append, mail-items_other, sends-own}
use Rattle.actor_theory.proofs.Joining.{joined-quiet, mail-to_slots_none}
use Rattle.actor_theory.proofs.Keeping.{log-reader, queue-reader, queue-slot, scheduled-kept}
use Rattle.actor_theory.proofs.Leaving.{lifted-append}
use Rattle.actor_theory.proofs.Lists.{by-append}
use Rattle.actor_theory.proofs.Scheduled.{sends-none}
use Rattle.naive_meaning.specs.Faithful.{FaithfulContext, FaithfulRecord, BeginsWith}
use Rattle.naive_meaning.specs.Records.{IsFaithful, shown, slot_kept, kept_of}
use Rattle.naive_meaning.proofs.Ascending.{ascending-ordered}
use Rattle.naive_meaning.proofs.Bearing.{AllCargo, all-append, all-lifted, all-mail, replies-all, replies-past}
use Rattle.naive_meaning.proofs.Carried.{cargoes, cargoes-by}
use Rattle.naive_meaning.proofs.Delivering.{world_of, log-of_slot, queue-of_slot, received-reader, received-same, received-slot, sends-same}
use Rattle.naive_meaning.proofs.Parts.{kept-there, log-past, after-same, handled-numbers, steps-numbers, before-unspent}

-- a context's part
context-naive : (p : Program) (settings : Settings) (slot : ℕ) (c : ContextRecord) → FaithfulContext p settings slot c → kept.IsNaive (slots_of p settings) shown slot (slot_kept c)
context-naive p settings slot c h =
    let same = after-same p settings (fresh slot settings.contexts settings.fuel) 0 (log_of c) in
    record {
      shown = h.lines ∙ ap (λ (d : Context). d.lines) same;
      numbers = h.numbers_are ∙ handled-numbers 0 c.handled;
      spent = h.spent ∙ ap (λ (d : Context). d.spent) same;
    }

-- up to a number is below the next
all-less : {C : Type 0} (n : ℕ) (es : List (Entry C)) → AllByRecursion (λ e. e.sender ≤ n) es → AllByRecursion (λ e. e.sender < suc n) es
all-less n [] h = tt
all-less n (e ∷ es) h = let here = h.0 in (omega arith, all-less n es h.1)

-- the senders of the second of two lists
all-rest : {C : Type 0} (n : ℕ) (xs ys : List (Entry C)) → AllByRecursion (λ e. e.sender ≤ n) (xs ++ ys) → AllByRecursion (λ e. e.sender ≤ n) ys
all-rest n [] ys h = h
all-rest n (x ∷ xs) ys h = all-rest n xs ys h.1

-- those of the first
all-begin : {C : Type 0} (n : ℕ) (xs ys : List (Entry C)) → AllByRecursion (λ e. e.sender ≤ n) (xs ++ ys) → AllByRecursion (λ e. e.sender ≤ n) xs
all-begin n [] ys h = tt
all-begin n (x ∷ xs) ys h = (h.0, all-begin n xs ys h.1)

-- those of both
both-all : {C : Type 0} (n : ℕ) (xs ys : List (Entry C)) → AllByRecursion (λ e. e.sender ≤ n) xs → AllByRecursion (λ e. e.sender ≤ n) ys → AllByRecursion (λ e. e.sender ≤ n) (xs ++ ys)
both-all n [] ys a b = b
both-all n (x ∷ xs) ys a b = (a.0, both-all n xs ys a.1 b)

-- nothing stands behind the entry that spent it, and what is left is by sender
context-ended : (p : Program) (settings : Settings) (slot : ℕ) (c : ContextRecord) → FaithfulContext p settings slot c → AllByRecursion (λ e. e.sender ≤ settings.contexts) (log_of c ++ c.left)
    → kept.IsSlotEnded settings.contexts (slots_of p settings) slot (slot_kept c)
context-ended p settings slot c h senders = record {
  unspent = before-unspent p settings (fresh slot settings.contexts settings.fuel) 0 (log_of c) h.unspent;
  by_sender = ascending-ordered (suc settings.contexts) c.left (all-less settings.contexts c.left (all-rest settings.contexts (log_of c) c.left senders)) h.ascending;
  nothing_left = h.nothing_left;
}

-- lists of cargoes are the same where their cargoes are
same-cargoes : (xs ys : List (Entry (Cargo ⊎ Item))) → AllCargo xs → AllCargo ys → cargoes xs ≡ cargoes ys → xs ≡ ys
same-cargoes xs ys a b h = sym (all-lifted xs a) ∙ ap (map lifted) h ∙ all-lifted ys b

-- the entries of a sender among cargoes are cargoes
by-lifted_all : (s : ℕ) (es : List (Entry Cargo)) → AllCargo {C = Cargo} {I = Item} (by s (map lifted es))
by-lifted_all s [] = tt
by-lifted_all s (e ∷ es) = go (by-lifted_all s es) (e.sender == s)
  where
    go : AllCargo {C = Cargo} {I = Item} (by s (map lifted es)) → (b : Bool) → AllCargo {C = Cargo} {I = Item} (cond b (lifted e ∷ by s (map lifted es)) (by s (map lifted es)))
    go ih true = (tt, ih)
    go ih false = ih

-- another's entries among the reader's steps
by-steps_all : (k s : ℕ) (steps : List (ReaderStep Item Cargo)) → (k ≡ s → ⊥) → AllCargo (by s (map (step_entry k) steps))
by-steps_all k s [] other = tt
by-steps_all k s (step.Item i n ∷ steps) other = rw (ne_eqb k s other) (by-steps_all k s steps other)
by-steps_all k s (step.Entry e n ∷ steps) other = go (by-steps_all k s steps other) (e.sender == s)
  where
    go : AllCargo (by s (map (step_entry k) steps)) → (b : Bool) → AllCargo {C = Cargo} {I = Item} (cond b (lifted e ∷ by s (map (step_entry k) steps)) (by s (map (step_entry k) steps)))
    go ih true = (tt, ih)
    go ih false = ih

-- the reader's own among them are its items
by-steps_own : (k : ℕ) (steps : List (ReaderStep Item Cargo)) → by k (entries_of steps) ≡ [] → by k (map (step_entry k) steps) ≡ map (own k) (map inr (items_of steps))
by-steps_own k [] h = refl
by-steps_own k (step.Item i n ∷ steps) h = rw (eq-eqb k k refl) (ap (λ (es : List (Entry (Cargo ⊎ Item))). own k (inr i) ∷ es) (by-steps_own k steps h))
by-steps_own k (step.Entry e n ∷ steps) h = go (λ j. by-steps_own k steps j) (e.sender == k) h
  where
    go : (by k (entries_of steps) ≡ [] → by k (map (step_entry k) steps) ≡ map (own k) (map inr (items_of steps))) → (b : Bool) → cond b (e ∷ by k (entries_of steps)) (by k (entries_of steps)) ≡ []
        → cond b (lifted e ∷ by k (map (step_entry k) steps)) (by k (map (step_entry k) steps)) ≡ map (own k) (map inr (items_of steps))
    go ih true j = absurd (cc)
    go ih false j = ih j

-- items carry no cargo
cargoes-own : (k : ℕ) (items : List Item) → cargoes {C = Cargo} {I = Item} (map (own k) (map inr items)) ≡ []
cargoes-own k [] = refl
cargoes-own k (i ∷ is) = cargoes-own k is

-- the senders stay the same
all-lift : (n : ℕ) (es : List (Entry Cargo)) → AllByRecursion (λ e. e.sender ≤ n) es → AllByRecursion (λ (e : Entry (Cargo ⊎ Item)). e.sender ≤ n) (map lifted es)
all-lift n [] h = tt
all-lift n (e ∷ es) h = (h.0, all-lift n es h.1)

-- the senders in the steps are actors, the reader among them
all-steps : (k : ℕ) (steps : List (ReaderStep Item Cargo)) → AllByRecursion (λ e. e.sender ≤ k) (entries_of steps) → AllByRecursion (λ (e : Entry (Cargo ⊎ Item)). e.sender ≤ k) (map (step_entry k) steps)
all-steps k [] h = tt
all-steps k (step.Item i n ∷ steps) h = (omega arith, all-steps k steps h)
all-steps k (step.Entry e n ∷ steps) h = (h.0, all-steps k steps h.1)

-- none of these is of a sender above them
by-above : {C : Type 0} (n s : ℕ) (es : List (Entry C)) → AllByRecursion (λ e. e.sender ≤ n) es → n < s → by s es ≡ []
by-above n s [] h lt = refl
by-above n s (e ∷ es) h lt = let here = h.0 in rw (ne_eqb e.sender s (λ i. omega arith)) (by-above n s es h.1 lt)

module _ (p : Program) (items : List Item) (settings : Settings) (r : Record) (h : FaithfulRecord p items settings r) where
  -- what is no actor has no log
  world-log_past : (d : ℕ) → settings.contexts < d → (world_of settings r).log d ≡ []
  world-log_past d lt =
      let count = h.count in
      log-of_slot settings r d (λ i. omega arith) ∙ ap (map lifted) (log-past r.contexts d (omega arith))

  -- and no queue
  world-queue_past : (d : ℕ) → settings.contexts < d → (world_of settings r).queue d ≡ []
  world-queue_past d lt =
      let count = h.count in
      queue-slot settings.contexts (kept_of r) d (λ i. omega arith)
      ∙ ap kept.slot_left (slice_get_past (kept_of r).slots d (let same = length-map r.contexts slot_kept in omega arith))

  -- each sender is an actor
  senders-world : (d : ℕ) → AllByRecursion (λ e. e.sender ≤ settings.contexts) ((world_of settings r).log d ++ (world_of settings r).queue d)
  senders-world d = go (cases_lt settings.contexts d)
    where
      reader : AllByRecursion (λ e. e.sender ≤ settings.contexts) ((world_of settings r).log settings.contexts ++ (world_of settings r).queue settings.contexts)
      reader =
          let Q : List (Entry Cargo) → Type 0 = AllByRecursion (λ e. e.sender ≤ settings.contexts) in
          let all : AllByRecursion (λ e. e.sender ≤ settings.contexts) (entries_of r.reader.steps ++ r.reader.left) = subst Q (received-reader settings r) (h.senders settings.contexts (omega arith)) in
          rw (log-reader settings.contexts (kept_of r), queue-reader settings.contexts (kept_of r))
          (both-all settings.contexts (map (step_entry settings.contexts) r.reader.steps) (map lifted r.reader.left) (all-steps settings.contexts r.reader.steps (all-begin settings.contexts (entries_of r.reader.steps) r.reader.left all)) (all-lift settings.contexts r.reader.left (all-rest settings.contexts (entries_of r.reader.steps) r.reader.left all)))

      slot : d ≤ settings.contexts → (d ≡ settings.contexts → ⊥) → AllByRecursion (λ e. e.sender ≤ settings.contexts) ((world_of settings r).log d ++ (world_of settings r).queue d)
      slot le other =
          let Q : List (Entry Cargo) → Type 0 = AllByRecursion (λ e. e.sender ≤ settings.contexts) in
          let all : AllByRecursion (λ e. e.sender ≤ settings.contexts) (log_of (part_at r d) ++ (part_at r d).left) = subst Q (received-slot settings r d other) (h.senders d le) in
          rw (log-of_slot settings r d other, queue-of_slot settings r d other)
          (both-all settings.contexts (map lifted (log_of (part_at r d))) (map lifted (part_at r d).left) (all-lift settings.contexts (log_of (part_at r d)) (all-begin settings.contexts (log_of (part_at r d)) (part_at r d).left all)) (all-lift settings.contexts (part_at r d).left (all-rest settings.contexts (log_of (part_at r d)) (part_at r d).left all)))

      within : d ≤ settings.contexts → ((d ≡ settings.contexts) ⊎ (d ≡ settings.contexts → ⊥)) → AllByRecursion (λ e. e.sender ≤ settings.contexts) ((world_of settings r).log d ++ (world_of settings r).queue d)
      within le (inl at) = rw at reader
      within le (inr other) = slot le other

      go : ((settings.contexts < d) ⊎ (d ≤ settings.contexts)) → AllByRecursion (λ e. e.sender ≤ settings.contexts) ((world_of settings r).log d ++ (world_of settings r).queue d)
      go (inl lt) = rw (world-log_past d lt, world-queue_past d lt) tt
      go (inr le) = within le (cases_eq d settings.contexts)

  -- the numbers of the steps are those of the theory
  numbers-world : map step_number r.reader.steps ≡ numbers_along 0 (map (step_entry settings.contexts) r.reader.steps)
  numbers-world = h.numbers_are ∙ steps-numbers settings.contexts 0 r.reader.steps

  -- what has been received, and what was sent, are the same of cargoes
  cargoes-delivered : (s d : ℕ) → s ≤ settings.contexts → d ≤ settings.contexts
      → cargoes (by s ((world_of settings r).log d ++ (world_of settings r).queue d)) ≡ cargoes (all_sends (actors_of p settings) (map inr items) s d ((world_of settings r).log s))
  cargoes-delivered s d s_le d_le =
      cargoes-by s ((world_of settings r).log d ++ (world_of settings r).queue d) ∙ ap (by s) (received-same settings r d) ∙ h.delivered s d s_le d_le ∙ sym (sends-same p items settings r s d numbers-world d_le)

  -- all that is sent are cargoes, but for what the reader sends itself
  sent-all : (s d : ℕ) → ((s ≡ settings.contexts) × (d ≡ settings.contexts) → ⊥) → AllCargo (all_sends (actors_of p settings) (map inr items) s d ((world_of settings r).log s))
  sent-all s d other =
      all-append (mail s 0 d (before (actors_of p settings) (map inr items) s)) (replies (actors_of p settings) s d (first (actors_of p settings) s) ((world_of settings r).log s)) (go (s == settings.contexts) refl)
      (replies-all settings.contexts (slots_of p settings) (reader_of p settings.contexts) s d (first (actors_of p settings) s) ((world_of settings r).log s))
    where
      go : (b : Bool) → (s == settings.contexts) ≡ b → AllCargo (mail s 0 d (cond b (loaded (actors_of p settings) (map inr items)) []))
      go true i =
          let at : s ≡ settings.contexts = eqb-true s settings.contexts i in
          let R : List (Entry (Cargo ⊎ Item)) → Type 0 = AllCargo in
          let none : mail s 0 d (map (to_self settings.contexts) (map inr items)) ≡ [] = ap (λ a. mail a 0 d (map (to_self settings.contexts) (map inr items))) at ∙ mail-items_other settings.contexts d (map inr items) (λ j. other (at, sym j)) in
          let loads_all : AllCargo (mail s 0 d (to_slots {C = Cargo} {I = Item} settings.contexts (loads_below (length p.monitors)))) = all-mail Item s 0 d (slots_only settings.contexts (loads_below (length p.monitors))) in
          subst R (sym (mail-append s 0 d (map (to_self settings.contexts) (map inr items)) (to_slots settings.contexts (loads_below (length p.monitors))) ∙ ap (λ es. es ++ mail s 0 d (to_slots settings.contexts (loads_below (length p.monitors)))) none)) loads_all
      go false i = tt

  -- all that is received are cargoes, but for the items
  received-all : (s d : ℕ) → ((s ≡ settings.contexts) × (d ≡ settings.contexts) → ⊥) → AllCargo (by s ((world_of settings r).log d ++ (world_of settings r).queue d))
  received-all s d other = go (cases_eq d settings.contexts)
    where
      go : ((d ≡ settings.contexts) ⊎ (d ≡ settings.contexts → ⊥)) → AllCargo (by s ((world_of settings r).log d ++ (world_of settings r).queue d))
      go (inl at) = rw (at, log-reader settings.contexts (kept_of r), queue-reader settings.contexts (kept_of r), by-append s (map (step_entry settings.contexts) r.reader.steps) (map lifted r.reader.left))
          (all-append (by s (map (step_entry settings.contexts) r.reader.steps)) (by s (map lifted r.reader.left)) (by-steps_all settings.contexts s r.reader.steps (λ i. other (sym i, at))) (by-lifted_all s r.reader.left))
      go (inr slot) = rw (log-of_slot settings r d slot, queue-of_slot settings r d slot, by-append s (map lifted (log_of (part_at r d))) (map lifted (part_at r d).left))
          (all-append (by s (map lifted (log_of (part_at r d)))) (by s (map lifted (part_at r d).left)) (by-lifted_all s (log_of (part_at r d))) (by-lifted_all s (part_at r d).left))

  -- the reader has taken the items that it has sent itself
  own-delivered : by settings.contexts ((world_of settings r).log settings.contexts ++ (world_of settings r).queue settings.contexts)
      ≡ all_sends (actors_of p settings) (map inr items) settings.contexts settings.contexts ((world_of settings r).log settings.contexts)
  own-delivered =
      let k = settings.contexts in
      let sent = sends-own (actors_of p settings) (map inr items) ((world_of settings r).log k) (joined-quiet k (slots_of p settings) (reader_of p settings.contexts)) in
      let nothing : by k (received settings r k) ≡ [] =
      h.delivered k k (omega arith) (omega arith) ∙ sym (sends-same p items settings r k k numbers-world (omega arith)) ∙ ap cargoes sent ∙ cargoes-own k items in
      let all : by k (entries_of r.reader.steps ++ []) ≡ [] = ap (λ es. by k (entries_of r.reader.steps ++ es)) (sym h.nothing_left) ∙ ap (by k) (sym (received-reader settings r)) ∙ nothing in
      let entries : by k (entries_of r.reader.steps) ≡ [] = ap (by k) (sym (append-nil (entries_of r.reader.steps))) ∙ all in
      ap (λ l. by k (l ++ (world_of settings r).queue k)) (log-reader k (kept_of r))
      ∙ ap (λ q. by k (map (step_entry k) r.reader.steps ++ q)) (queue-reader k (kept_of r) ∙ ap (map lifted) h.nothing_left)
      ∙ ap (by k) (append-nil (map (step_entry k) r.reader.steps))
      ∙ by-steps_own k r.reader.steps entries ∙ ap (λ is. map (own k) (map inr is)) h.items_are ∙ sym sent

  -- nothing is sent to what is no actor
  past-delivered : (s d : ℕ) → settings.contexts < d → by s ((world_of settings r).log d ++ (world_of settings r).queue d) ≡ all_sends (actors_of p settings) (map inr items) s d ((world_of settings r).log s)
  past-delivered s d lt =
      ap (λ l. by s (l ++ (world_of settings r).queue d)) (world-log_past d lt) ∙ ap (by s) (world-queue_past d lt)
      ∙ sym (ap (λ es. es ++ replies (actors_of p settings) s d (first (actors_of p settings) s) ((world_of settings r).log s)) (none (s == settings.contexts)) ∙ replies-past settings.contexts (slots_of p settings) (reader_of p settings.contexts) s d (first (actors_of p settings) s) ((world_of settings r).log s) lt)
    where
      none : (b : Bool) → mail s 0 d (cond b (loaded (actors_of p settings) (map inr items)) []) ≡ []
      none true =
          mail-append s 0 d (map (to_self settings.contexts) (map inr items)) (to_slots settings.contexts (loads_below (length p.monitors)))
          ∙ ap (λ es. es ++ mail s 0 d (to_slots settings.contexts (loads_below (length p.monitors)))) (no-items (map inr items))
          ∙ mail-to_slots_none settings.contexts s 0 d (loads_below (length p.monitors)) (omega arith)
        where
          no-items : (is : List (Cargo ⊎ Item)) → mail s 0 d (map (to_self settings.contexts) is) ≡ []
          no-items [] = refl
          no-items (i ∷ is) = rw (ne_eqb settings.contexts d (λ j. omega arith)) (no-items is)
      none false = refl

  -- each send was received, for any two numbers
  each-delivered : (s d : ℕ) → by s ((world_of settings r).log d ++ (world_of settings r).queue d) ≡ all_sends (actors_of p settings) (map inr items) s d ((world_of settings r).log s)
  each-delivered s d = go (cases_lt settings.contexts d) (cases_lt settings.contexts s)
    where
      within : s ≤ settings.contexts → d ≤ settings.contexts → ((s ≡ settings.contexts) × (d ≡ settings.contexts) → ⊥)
          → by s ((world_of settings r).log d ++ (world_of settings r).queue d) ≡ all_sends (actors_of p settings) (map inr items) s d ((world_of settings r).log s)
      within s_le d_le other = same-cargoes (by s ((world_of settings r).log d ++ (world_of settings r).queue d)) (all_sends (actors_of p settings) (map inr items) s d ((world_of settings r).log s)) (received-all s d other) (sent-all s d other) (cargoes-delivered s d s_le d_le)

      both : s ≤ settings.contexts → d ≤ settings.contexts → ((s ≡ settings.contexts) ⊎ (s ≡ settings.contexts → ⊥)) → ((d ≡ settings.contexts) ⊎ (d ≡ settings.contexts → ⊥))
          → by s ((world_of settings r).log d ++ (world_of settings r).queue d) ≡ all_sends (actors_of p settings) (map inr items) s d ((world_of settings r).log s)
      both s_le d_le (inl s_at) (inl d_at) = rw (s_at, d_at) own-delivered
      both s_le d_le (inr other) at = within s_le d_le (λ i. other i.0)
      both s_le d_le (inl at) (inr other) = within s_le d_le (λ i. other i.1)

      go : ((settings.contexts < d) ⊎ (d ≤ settings.contexts)) → ((settings.contexts < s) ⊎ (s ≤ settings.contexts)) → by s ((world_of settings r).log d ++ (world_of settings r).queue d) ≡ all_sends (actors_of p settings) (map inr items) s d ((world_of settings r).log s)
      go (inl lt) any = past-delivered s d lt
      go (inr le) (inl lt) =
          by-above settings.contexts s ((world_of settings r).log d ++ (world_of settings r).queue d) (senders-world d) lt ∙ sym (sends-none (actors_of p settings) (map inr items) s d ((world_of settings r).log s) lt (world-log_past s lt))
      go (inr d_le) (inr s_le) = both s_le d_le (cases_eq s settings.contexts) (cases_eq d settings.contexts)

  -- the logs go on from those of boot
  boot-world : BeginsWithBoot (actors_of p settings) (world_of settings r)
  boot-world =
      let begun : Record = h.boot.0 in
      let faithful = scheduled-kept settings.contexts (slots_of p settings) (reader_of p settings.contexts) shown [] [] (kept_of begun) h.boot.1.scheduled in
      begins-more (actors_of p settings) (world_of settings begun) (world_of settings r) (λ d. grown begun h.boot.2 d (cases_eq d settings.contexts)) faithful.boot
    where
      grown : (begun : Record) → BeginsWith begun r → (d : ℕ) → ((d ≡ settings.contexts) ⊎ (d ≡ settings.contexts → ⊥)) → IsPrefix ((world_of settings begun).log d) ((world_of settings r).log d)
      grown begun b d (inl at) = rw (at, log-reader settings.contexts (kept_of begun), log-reader settings.contexts (kept_of r))
          (map (step_entry settings.contexts) b.steps.0, ap (map (step_entry settings.contexts)) b.steps.1 ∙ map-append (step_entry settings.contexts) begun.reader.steps b.steps.0)
      grown begun b d (inr other) = rw (log-of_slot settings begun d other, log-of_slot settings r d other)
          (map lifted (b.logs d).0, ap (map lifted) (b.logs d).1 ∙ lifted-append (log_of (part_at begun d)) (b.logs d).0)

  -- the part of a slot is there
  slot-there : (slot : ℕ) → slot < settings.contexts → slice_get (kept_of r).slots slot ≡ Some (slot_kept (part_at r slot))
  slot-there slot lt = kept-there r slot (subst (λ n. slot < n) (sym h.count) lt)

  -- past the slots there is none
  slot-past : (slot : ℕ) → settings.contexts ≤ slot → slice_get (kept_of r).slots slot ≡ None
  slot-past slot le =
      let count = h.count in
      let same = length-map r.contexts slot_kept in
      slice_get_past (kept_of r).slots slot (omega arith)

  -- each part is that of naive evaluation
  slots-naive : (slot : ℕ) → IfSome (slice_get (kept_of r).slots slot) (kept.IsNaive (slots_of p settings) shown slot)
  slots-naive slot = go (cases_lt slot settings.contexts)
    where
      go : ((slot < settings.contexts) ⊎ (settings.contexts ≤ slot)) → IfSome (slice_get (kept_of r).slots slot) (kept.IsNaive (slots_of p settings) shown slot)
      go (inl lt) = rw (slot-there slot lt) (context-naive p settings slot (part_at r slot) (h.contexts slot lt))
      go (inr le) = rw (slot-past slot le) tt

  -- each part is that of a run that has ended
  slots-ended : (slot : ℕ) → IfSome (slice_get (kept_of r).slots slot) (kept.IsSlotEnded settings.contexts (slots_of p settings) slot)
  slots-ended slot = go (cases_lt slot settings.contexts)
    where
      go : ((slot < settings.contexts) ⊎ (settings.contexts ≤ slot)) → IfSome (slice_get (kept_of r).slots slot) (kept.IsSlotEnded settings.contexts (slots_of p settings) slot)
      go (inl lt) =
          let Q : List (Entry Cargo) → Type 0 = AllByRecursion (λ e. e.sender ≤ settings.contexts) in
          let all : AllByRecursion (λ e. e.sender ≤ settings.contexts) (log_of (part_at r slot) ++ (part_at r slot).left) = subst Q (received-slot settings r slot (λ i. omega arith)) (h.senders slot (omega arith)) in
          rw (slot-there slot lt) (context-ended p settings slot (part_at r slot) (h.contexts slot lt) all)
      go (inr le) = rw (slot-past slot le) tt

  -- a record that is faithful in its own words is faithful
  pub words-faithful : IsFaithful p items settings r
  words-faithful = record {
    same_settings = h.same_settings;
    faithful = record {
      naive = record { count = length-map r.contexts slot_kept ∙ h.count; slots = slots-naive; numbers = numbers-world };
      ended = slots-ended;
      items_are = h.items_are;
      no_left = h.nothing_left;
      delivered = record { each = each-delivered; senders = senders-world };
      boot = boot-world;
    };
  }
