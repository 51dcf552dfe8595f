-- What holds between parts that run beside each other: logs, queues, and outboxes.
use Rattle.std.specs.Prelude.{◌≡◌, ◌≤◌, ◌<◌, ◌∷◌, ◌++◌}
use Rattle.actor_theory.specs.Common.{ℕ, List, [], false}
use Rattle.actor_theory.specs.declared.entry.Entry.{Entry}
use Rattle.actor_theory.specs.Language.{Language, first, naive, reply, replies, sends, by}
use Rattle.actor_theory.specs.World.{World}
use Rattle.actor_theory.specs.Faithful.{IsUnspentAlong}

-- what s has sent to d stands in the log of d, in its queue, or still in the outbox of s for d
pub record Holds {S C : Type 0} (L : Language S C) (items : List C) (w : World C) (outbox : ℕ → ℕ → List (Entry C)) : Type 0 where
  pub each : (s d : ℕ) → by s (w.log d ++ w.queue d) ++ outbox s d ≡ sends L items s d (w.log s)
  pub unspent : (d : ℕ) → IsUnspentAlong L (first L d) (w.log d)
  pub others : (d : ℕ) → L.contexts < d → w.log d ≡ []

-- s posts the oldest entry of its outbox for d
pub record Posts {C : Type 0} (w w' : World C) (outbox outbox' : ℕ → ℕ → List (Entry C)) (s d : ℕ) (e : Entry C) : Type 0 where
  pub from : outbox s d ≡ e ∷ outbox' s d
  pub to : w'.queue d ≡ w.queue d ++ e ∷ []
  pub queues : (k : ℕ) → (k ≡ d → ⊥) → w'.queue k ≡ w.queue k
  pub boxes : (t k : ℕ) → ((t ≡ s) × (k ≡ d) → ⊥) → outbox' t k ≡ outbox t k
  pub logs : (k : ℕ) → w'.log k ≡ w.log k

-- d takes the front of its queue, handles it, and keeps what it sends in its outbox
pub record Handles {S C : Type 0} (L : Language S C) (w w' : World C) (outbox outbox' : ℕ → ℕ → List (Entry C)) (d : ℕ) (e : Entry C) : Type 0 where
  pub actor : d ≤ L.contexts
  pub unspent : L.is_spent (naive L d (w.log d)).state ≡ false
  pub from : w.queue d ≡ e ∷ w'.queue d
  pub to : w'.log d ≡ w.log d ++ e ∷ []
  pub queues : (k : ℕ) → (k ≡ d → ⊥) → w'.queue k ≡ w.queue k
  pub logs : (k : ℕ) → (k ≡ d → ⊥) → w'.log k ≡ w.log k
  pub sent : (k : ℕ) → outbox' d k ≡ outbox d k ++ reply L d k (naive L d (w.log d)) e
  pub boxes : (t k : ℕ) → (t ≡ d → ⊥) → outbox' t k ≡ outbox t k

-- any number of steps of all parts, whatever their interleaving: what each actor took and handled, and what each posted to each
pub record Works {S C : Type 0} (L : Language S C) (w w' : World C) (outbox outbox' : ℕ → ℕ → List (Entry C)) (taken : ℕ → List (Entry C)) (posted : ℕ → ℕ → List (Entry C)) : Type 0 where
  pub logs : (d : ℕ) → w'.log d ≡ w.log d ++ taken d
  -- what was in the outbox and what the handlings sent was posted, or is still in the outbox
  pub posts : (s d : ℕ) → outbox s d ++ replies L s d (naive L s (w.log s)) (taken s) ≡ posted s d ++ outbox' s d
  -- what was queued and what was posted was taken, or is still queued, in each sender's order
  pub mail : (s d : ℕ) → by s (taken d ++ w'.queue d) ≡ by s (w.queue d) ++ posted s d
  pub unspent : (d : ℕ) → IsUnspentAlong L (naive L d (w.log d)) (taken d)
  pub others : (d : ℕ) → L.contexts < d → taken d ≡ []
