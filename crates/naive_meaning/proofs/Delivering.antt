-- What the actors of a record receive, in the theory and in its own words.
use Rattle.std.proofs.Common.{◌≡◌, ◌≤◌, ◌∷◌, ◌++◌, ◌==◌, ◌⊎◌}
use Rattle.std.specs.List.{AllByRecursion}
use Rattle.naive_meaning.proofs.Common.{ℕ, List, [], Bool, true, false, cond, refl, sym, ◌∙◌, ap, inl, inr, map, eqb-true, eqb-false, eq-eqb, ne_eqb, Entry, Cargo, Item, Program, Settings, Record, World, by, numbers_along, lifted, step_entry, step_number, fresh, actors_of, loads_below, entries_of, log_of, part_at, received, sends, context_sends, items_send, mail, length, Sent}
use Rattle.actor_theory.specs.Joined.{slots_only}
use Rattle.actor_theory.specs.Language.{sends as all_sends}
use Rattle.actor_theory.specs.Kept.{world_of_kept}
use Rattle.actor_theory.proofs.Keeping.{log-reader, queue-reader, log-slot, queue-slot}
use Rattle.naive_meaning.specs.Records.{kept_of}
use Rattle.naive_meaning.proofs.Carried.{cargoes, cargoes-append, cargoes-lifted, cargoes-by, cargoes-steps, with_cargo}
use Rattle.naive_meaning.proofs.Parts.{log-at, left-at}
use Rattle.naive_meaning.proofs.Sending.{context-sent, reader-sent}

-- the logs and queues of a record
abbrev pub world_of : Settings → Record → World (Cargo ⊎ Item)
world_of settings r = world_of_kept settings.contexts (kept_of r)

-- the log of a slot
pub log-of_slot : (settings : Settings) (r : Record) (d : ℕ) → (d ≡ settings.contexts → ⊥) → (world_of settings r).log d ≡ map lifted (log_of (part_at r d))
log-of_slot settings r d other = log-slot settings.contexts (kept_of r) d other ∙ log-at r.contexts d

-- what is left for a slot
pub queue-of_slot : (settings : Settings) (r : Record) (d : ℕ) → (d ≡ settings.contexts → ⊥) → (world_of settings r).queue d ≡ map lifted (part_at r d).left
queue-of_slot settings r d other = queue-slot settings.contexts (kept_of r) d other ∙ left-at r.contexts d

-- what the reader has received
pub received-reader : (settings : Settings) (r : Record) → received settings r settings.contexts ≡ entries_of r.reader.steps ++ r.reader.left
received-reader settings r = rw (eq-eqb settings.contexts settings.contexts refl) refl

-- what a context has received
pub received-slot : (settings : Settings) (r : Record) (d : ℕ) → (d ≡ settings.contexts → ⊥) → received settings r d ≡ log_of (part_at r d) ++ (part_at r d).left
received-slot settings r d other = rw (ne_eqb d settings.contexts other) refl

-- what an actor has received of cargoes
pub received-same : (settings : Settings) (r : Record) (d : ℕ) → cargoes ((world_of settings r).log d ++ (world_of settings r).queue d) ≡ received settings r d
received-same settings r d = cargoes-append ((world_of settings r).log d) ((world_of settings r).queue d) ∙ go (d == settings.contexts) refl
  where
    go : (b : Bool) → (d == settings.contexts) ≡ b → cargoes ((world_of settings r).log d) ++ cargoes ((world_of settings r).queue d) ≡ cond b (entries_of r.reader.steps ++ r.reader.left) (log_of (part_at r d) ++ (part_at r d).left)
    go true i =
        let at : d ≡ settings.contexts = eqb-true d settings.contexts i in
        ap (λ k. cargoes ((world_of settings r).log k) ++ cargoes ((world_of settings r).queue k)) at
        ∙ ap (λ (xs : List (Entry (Cargo ⊎ Item))). cargoes xs ++ cargoes ((world_of settings r).queue settings.contexts)) (log-reader settings.contexts (kept_of r))
        ∙ ap (λ (xs : List (Entry (Cargo ⊎ Item))). cargoes (map (step_entry settings.contexts) r.reader.steps) ++ cargoes xs) (queue-reader settings.contexts (kept_of r))
        ∙ ap (λ xs. xs ++ cargoes {C = Cargo} {I = Item} (map lifted r.reader.left)) (cargoes-steps settings.contexts r.reader.steps)
        ∙ ap (λ xs. entries_of r.reader.steps ++ xs) (cargoes-lifted Item r.reader.left)
    go false i =
        let other : d ≡ settings.contexts → ⊥ = eqb-false d settings.contexts i in
        ap (λ (xs : List (Entry (Cargo ⊎ Item))). cargoes xs ++ cargoes ((world_of settings r).queue d)) (log-of_slot settings r d other)
        ∙ ap (λ (xs : List (Entry (Cargo ⊎ Item))). cargoes {C = Cargo} {I = Item} (map lifted (log_of (part_at r d))) ++ cargoes xs) (queue-of_slot settings r d other)
        ∙ ap (λ xs. xs ++ cargoes {C = Cargo} {I = Item} (map lifted (part_at r d).left)) (cargoes-lifted Item (log_of (part_at r d)))
        ∙ ap (λ xs. log_of (part_at r d) ++ xs) (cargoes-lifted Item (part_at r d).left)

-- what an actor sends of cargoes
pub sends-same : (p : Program) (items : List Item) (settings : Settings) (r : Record) (s d : ℕ) → map step_number r.reader.steps ≡ numbers_along 0 (map (step_entry settings.contexts) r.reader.steps) → d ≤ settings.contexts
    → cargoes (all_sends (actors_of p settings) (map inr items) s d ((world_of settings r).log s)) ≡ sends p settings r s d
sends-same p items settings r s d h le = go (s == settings.contexts) refl
  where
    k : ℕ
    k = settings.contexts

    loads : List (Sent Cargo)
    loads = slots_only settings.contexts (loads_below (length p.monitors))

    go : (b : Bool) → (s == settings.contexts) ≡ b
        → cargoes (all_sends (actors_of p settings) (map inr items) s d ((world_of settings r).log s))
        ≡ cond b (mail s 0 d loads ++ items_send settings d r.reader.steps) (context_sends p settings s d (fresh s settings.contexts settings.fuel) 0 (log_of (part_at r s)))
    go true i =
        let at : s ≡ k = eqb-true s k i in
        ap (λ a. cargoes (all_sends (actors_of p settings) (map inr items) a d ((world_of settings r).log a))) at
        ∙ ap (λ l. cargoes (all_sends (actors_of p settings) (map inr items) k d l)) (log-reader k (kept_of r))
        ∙ reader-sent p items settings d r.reader.steps h
        ∙ ap (λ a. mail a 0 d loads ++ items_send settings d r.reader.steps) (sym at)
    go false i =
        let other : s ≡ k → ⊥ = eqb-false s k i in
        ap (λ l. cargoes (all_sends (actors_of p settings) (map inr items) s d l)) (log-of_slot settings r s other) ∙ context-sent p items settings s d (log_of (part_at r s)) other le

-- the senders of cargoes are among all senders
pub all-cargoes : (n : ℕ) (xs : List (Entry (Cargo ⊎ Item))) → AllByRecursion (λ e. e.sender ≤ n) xs → AllByRecursion (λ e. e.sender ≤ n) (cargoes xs)
all-cargoes n [] h = tt
all-cargoes n (x ∷ xs) h = go (all-cargoes n xs h.1) x.cargo
  where
    go : AllByRecursion (λ e. e.sender ≤ n) (cargoes xs) → (k : Cargo ⊎ Item) → AllByRecursion (λ e. e.sender ≤ n) (with_cargo x k (cargoes xs))
    go ih (inl c) = (h.0, ih)
    go ih (inr i) = ih

-- what was sent to an actor is what it has received
pub received-sent : (p : Program) (items : List Item) (settings : Settings) (r : Record) (s d : ℕ) → map step_number r.reader.steps ≡ numbers_along 0 (map (step_entry settings.contexts) r.reader.steps) → d ≤ settings.contexts
    → by s ((world_of settings r).log d ++ (world_of settings r).queue d) ≡ all_sends (actors_of p settings) (map inr items) s d ((world_of settings r).log s)
    → by s (received settings r d) ≡ sends p settings r s d
received-sent p items settings r s d numbers le h =
    ap (by s) (sym (received-same settings r d)) ∙ sym (cargoes-by s ((world_of settings r).log d ++ (world_of settings r).queue d)) ∙ ap cargoes h ∙ sends-same p items settings r s d numbers le
