-- What workers did, gathered: what held before holds after.
use Rattle.std.proofs.Common.{◌≡◌, ℕ, suc, ◌<◌, ◌≤◌, List, [], ◌++◌, sym, ◌∙◌, ap, subst, arith, ◌⊎◌, inl, inr, map, length, slice_get, IfSome}
use Rattle.std.proofs.lemmas.Bool.{cases_lt}
use Rattle.actor_theory.specs.declared.entry.Entry.{Entry}
use Rattle.actor_theory.specs.Language.{by}
use Rattle.actor_theory.specs.World.{World}
use Rattle.actor_theory.specs.Joined.{Slots, Reader, joined}
use Rattle.actor_theory.specs.Machine.{Cell, Stand, IsCellOf, IsReaderOf, queue_at, world_of}
use Rattle.actor_theory.proofs.Cells.{cell-is}
use Rattle.actor_theory.proofs.Working.{works-holds}
use Rattle.actor_theory.proofs.Keeping.{get-within}
use Rattle.worker_theory.specs.Working.{Sender, Source, Gathered, IsHolding, cell_of, outbox_of, lifted_posts, acts_entries}
use Rattle.worker_theory.proofs.Along.{these-cell, acts-reader}
use Rattle.worker_theory.proofs.Acting.{ActorWorked, actors-work, slot-works, source-works, nobody-works, source-none, by-all, get-map, get-below, get-past, length-of-map}

module _ {S R C I : Type 0} (contexts : ℕ) (A : Slots S C) (B : Reader R C I) (items : List I) (senders senders' : List (Sender S C)) (source source' : Source R C I) (queued queued' : List (List (Entry C)))
    (all : Gathered contexts A B senders source queued senders' source' queued') (held : IsHolding contexts A B items senders source queued) where
  abbrev w : World (C ⊎ I)
  w = world_of contexts (map cell_of senders) source.cell queued

  abbrev w' : World (C ⊎ I)
  w' = world_of contexts (map cell_of senders') source'.cell queued'

  count : length senders ≡ contexts
  count = sym (length-of-map cell_of senders) ∙ held.stand.cells_count

  count' : length senders' ≡ contexts
  count' = all.slots_count ∙ count

  queues' : length queued' ≡ suc contexts
  queues' = all.queues_count ∙ held.stand.queues_count

  each : (d : ℕ) → ((d < contexts) ⊎ (contexts ≤ d)) → ((contexts < d) ⊎ (d ≤ contexts)) → ActorWorked (joined contexts A B) w w' (outbox_of contexts senders source) (outbox_of contexts senders' source') (lifted_posts all.posted) d
  each d (inl lt) _ =
      let before = get-below senders d (omega (arith, lt, count)) in
      let after = get-below senders' d (omega (arith, lt, count')) in
      slot-works contexts A B senders senders' source source' queued queued' (all.left d) (all.got d) (all.rest d) all.posted d before.0 after.0 held.stand lt before.1 after.1 (held.boxes d before.0 before.1)
      (all.slots d before.0 after.0 before.1 after.1) (all.queues d (omega (arith, lt))) (λ s. all.mail s d (omega (arith, lt))) (λ k past. all.nowhere d k past)
  each d (inr le) (inr le') =
      let same : d ≡ contexts = omega (arith, le, le') in
      rw same (source-works contexts A B senders senders' source source' queued queued' (all.left contexts) (all.got contexts) (all.rest contexts) all.posted held.stand held.source_boxes
      all.reader (all.queues contexts (omega arith)) (λ s. all.mail s contexts (omega arith)) (λ k past. all.nowhere contexts k past) all.own_none)
  each d (inr le) (inl past) =
      nobody-works contexts A B senders senders' source source' queued queued' all.posted d past count count' held.stand.queues_count queues' (λ k. all.nobody d k past) (λ s. all.nowhere s d past)

  stands : Stand contexts A B (map cell_of senders') source'.cell queued'
  stands = record {
    cells_count = length-of-map cell_of senders' ∙ count';
    queues_count = queues';
    cells_are = λ k. cell k (cases_lt k contexts);
    reader_is = let P = IsReaderOf contexts B in subst P (sym all.reader.cell_is) (acts-reader B contexts source.cell all.reader.acts held.stand.reader_is);
    from_others = by-all contexts (queue_at queued' contexts) (ap (by contexts) (all.queues contexts (omega arith)) ∙ none.1);
  }
    where
      none : (by contexts (acts_entries all.reader.acts) ≡ []) × (by contexts (all.left contexts ++ all.rest contexts) ≡ [])
      none = source-none B contexts source (queue_at queued contexts) source' (all.left contexts) (all.got contexts) (all.rest contexts) (all.posted contexts) held.stand.from_others (all.mail contexts contexts (omega arith) ∙ all.own_none) all.reader

      cell : (k : ℕ) → ((k < contexts) ⊎ (contexts ≤ k)) → IfSome (slice_get (map cell_of senders') k) (IsCellOf A k)
      cell k (inl lt) =
          let before = get-below senders k (omega (arith, lt, count)) in
          let after = get-below senders' k (omega (arith, lt, count')) in
          let done = all.slots k before.0 after.0 before.1 after.1 in
          let stood = cell-is contexts A B (map cell_of senders) source.cell queued k before.0.cell held.stand (get-map cell_of senders k before.0 before.1) in
          let P : Cell S C → Type 0 = IsCellOf A k in
          rw (get-map cell_of senders' k after.0 after.1) (subst P (sym done.cell_is) (these-cell A k before.0.cell done.handled stood))
      cell k (inr le) = let n = length-of-map cell_of senders' in rw (get-past (map cell_of senders') k (omega (arith, le, n, count'))) tt

  pub gathered-holds : IsHolding contexts A B items senders' source' queued'
  gathered-holds = record {
    stand = stands;
    boxes = λ k y e. let within = get-within senders' k y e in
        let before = get-below senders k (omega (arith, within, all.slots_count)) in (all.slots k before.0 y before.1 e).boxes ∙ held.boxes k before.0 before.1;
    source_boxes = all.reader.boxes ∙ held.source_boxes;
    holds = let h : (d : ℕ) → ActorWorked (joined contexts A B) w w' (outbox_of contexts senders source) (outbox_of contexts senders' source') (lifted_posts all.posted) d = λ d. each d (cases_lt d contexts) (cases_lt contexts d) in
        works-holds (joined contexts A B) (map inr items) w w' (outbox_of contexts senders source) (outbox_of contexts senders' source') (λ d. (h d).taken) (lifted_posts all.posted) (actors-work (joined contexts A B) w w' (outbox_of contexts senders source) (outbox_of contexts senders' source') (lifted_posts all.posted) h) held.holds;
  }
