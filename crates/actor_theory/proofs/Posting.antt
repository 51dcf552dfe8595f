-- An actor posts all of its outboxes.
use Rattle.std.proofs.Common.{◌≡◌, ◌++◌, ◌==◌, ◌⊎◌}
use Rattle.actor_theory.proofs.Common.{ℕ, List, [], Bool, true, false, cond, refl, sym, ◌∙◌, ap, append_assoc, append-nil, inr, map, eqb-true, eqb-false, Entry, Language, by, World, Slots, Reader, lifted, Cell, ReaderCell, queue_at, own_items, world_of}
use Rattle.actor_theory.specs.Holds.{Holds}
use Rattle.actor_theory.specs.Joined.{joined}
use Rattle.actor_theory.proofs.Lists.{by-append}
use Rattle.actor_theory.proofs.Beside.{box-by}
use Rattle.actor_theory.proofs.Leaving.{by-by_other, lifted-append}
use Rattle.actor_theory.proofs.Working.{works-holds}

-- what holds stays so when s has posted all that it had for each actor
pub all-posted : {S C : Type 0} (L : Language S C) (items : List C) (w v : World C) (outbox outbox' : ℕ → ℕ → List (Entry C)) (s : ℕ) → ((d : ℕ) → v.log d ≡ w.log d) → ((d : ℕ) → v.queue d ≡ w.queue d ++ outbox s d)
    → ((d : ℕ) → outbox' s d ≡ []) → ((t d : ℕ) → (t ≡ s → ⊥) → outbox' t d ≡ outbox t d) → Holds L items w outbox → Holds L items v outbox'
all-posted {S} {C} L items w v outbox outbox' s logs queues empty others h = works-holds L items w v outbox outbox' (λ d. []) (λ t d. cond (t == s) (outbox s d) []) (record {
  logs = λ d. logs d ∙ sym (append-nil (w.log d));
  posts = λ t d. posts t d (t == s) refl;
  mail = λ t d. ap (by t) (queues d) ∙ by-append t (w.queue d) (outbox s d) ∙ ap (λ es. by t (w.queue d) ++ es) (from t d (t == s) refl);
  unspent = λ d. tt;
  others = λ d lt. refl;
}) h
  where
    posts : (t d : ℕ) (b : Bool) → (t == s) ≡ b → outbox t d ++ [] ≡ cond b (outbox s d) [] ++ outbox' t d
    posts t d true e = let same = eqb-true t s e in rw same (ap (λ es. outbox s d ++ es) (sym (empty d)))
    posts t d false e = append-nil (outbox t d) ∙ sym (others t d (eqb-false t s e))

    from : (t d : ℕ) (b : Bool) → (t == s) ≡ b → by t (outbox s d) ≡ cond b (outbox s d) []
    from t d true e = let same = eqb-true t s e in rw same (box-by L items w outbox h s d)
    from t d false e = ap (by t) (sym (box-by L items w outbox h s d)) ∙ by-by_other t s (outbox s d) (eqb-false t s e)

-- the same of the machine: each queue has gained what s had for its actor
pub machine-posted : {S R C I : Type 0} (contexts : ℕ) (A : Slots S C) (B : Reader R C I) (items : List I) (cells : List (Cell S C)) (reader : ReaderCell R C I) (queued queued' : List (List (Entry C))) (posted : ℕ → List (Entry C))
    (outbox outbox' : ℕ → ℕ → List (Entry (C ⊎ I))) (s : ℕ) → ((d : ℕ) → queue_at queued' d ≡ queue_at queued d ++ posted d) → ((d : ℕ) → outbox s d ≡ map lifted (posted d)) → ((d : ℕ) → outbox' s d ≡ [])
    → ((t d : ℕ) → (t ≡ s → ⊥) → outbox' t d ≡ outbox t d) → Holds (joined contexts A B) (map inr items) (world_of contexts cells reader queued) outbox → Holds (joined contexts A B) (map inr items) (world_of contexts cells reader queued') outbox'
machine-posted {S} {R} {C} {I} contexts A B items cells reader queued queued' posted outbox outbox' s queues had empty others h =
    all-posted (joined contexts A B) (map inr items) (world_of contexts cells reader queued) (world_of contexts cells reader queued') outbox outbox' s (λ d. refl) queue empty others h
  where
    queue : (d : ℕ) → (world_of contexts cells reader queued').queue d ≡ (world_of contexts cells reader queued).queue d ++ outbox s d
    queue d =
        ap (λ q. own_items contexts reader.rest d ++ map lifted q) (queues d) ∙ ap (λ (es : List (Entry (C ⊎ I))). own_items contexts reader.rest d ++ es) (lifted-append (queue_at queued d) (posted d))
        ∙ sym (append_assoc (own_items contexts reader.rest d) (map lifted (queue_at queued d)) (map lifted (posted d))) ∙ ap (λ (es : List (Entry (C ⊎ I))). (world_of contexts cells reader queued).queue d ++ es) (sym (had d))
