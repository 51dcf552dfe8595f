-- Faithful logs, and those of a schedule.
use Rattle.std.specs.Prelude.{◌≡◌, ◌≤◌, ◌<◌, ◌∷◌, ◌++◌}
use Rattle.actor_theory.specs.Common.{ℕ, List, [], true, false, Option, AllByRecursion}
use Rattle.actor_theory.specs.declared.entry.Entry.{Entry}
use Rattle.actor_theory.specs.Language.{Language, Moment, first, next, naive, mail, replies, sends, by}
use Rattle.actor_theory.specs.World.{World, start, given, follow, IsFinished}

-- each send reached its actor once, in its sender's order
pub record IsDelivered {S C : Type 0} (L : Language S C) (items : List C) (w : World C) : Type 0 where
  pub each : (s d : ℕ) → by s (w.log d ++ w.queue d) ≡ sends L items s d (w.log s)
  pub senders : (d : ℕ) → AllByRecursion (λ e. e.sender ≤ L.contexts) (w.log d ++ w.queue d)

-- each of these entries is handled by an actor that isn't spent
abbrev pub IsUnspentAlong : {S C : Type 0} → Language S C → Moment S → List (Entry C) → Type 0
IsUnspentAlong L m [] = Unit {0}
IsUnspentAlong L m (e ∷ es) = (L.is_spent m.state ≡ false) × IsUnspentAlong L (next L m e) es

-- the whole list goes on from its front
abbrev pub IsPrefix : {A : Type 0} → List A → List A → Type 0
IsPrefix {A} front whole = (rest : List A) × (whole ≡ front ++ rest)

-- boot: from the loads alone, rounds until one handles nothing
abbrev pub IsBoot : {S C : Type 0} → Language S C → World C → Type 0
IsBoot L w = IsFinished L false (start L []) w

-- each log goes on from that of boot
abbrev pub BeginsWithBoot : {S C : Type 0} → Language S C → World C → Type 0
BeginsWithBoot {S} {C} L w = (boot : World C) × IsBoot L boot × ((d : ℕ) → IsPrefix (boot.log d) (w.log d))

-- the reader sends itself nothing but its items
pub record IsReaderQuiet {S C : Type 0} (L : Language S C) : Type 0 where
  pub loads : mail L.contexts 0 L.contexts L.loads ≡ []
  pub replies_none : (log : List (Entry C)) → replies L L.contexts L.contexts (first L L.contexts) log ≡ []

-- logs, and what is left, that some run of actors can have made
pub record IsFaithfulRun {S C : Type 0} (L : Language S C) (items : List C) (w : World C) : Type 0 where
  pub delivered : IsDelivered L items w
  pub unspent : (d : ℕ) → IsUnspentAlong L (first L d) (w.log d)
  -- only actors handle anything
  pub others : (d : ℕ) → L.contexts < d → w.log d ≡ []
  pub boot : BeginsWithBoot L w
  pub nothing_left : (d : ℕ) → d ≤ L.contexts → L.is_spent (naive L d (w.log d)).state ≡ false → w.queue d ≡ []

-- boot, then the items are there, then the picks, then rounds until one handles nothing
pub record IsScheduledRun {S C : Type 0} (L : Language S C) (items : List C) (picks : List (ℕ × Option ℕ)) (w : World C) : Type 0 where
  pub boot : World C
  pub booted : IsBoot L boot
  pub finished : IsFinished L true (follow L (given L items boot) picks) w
