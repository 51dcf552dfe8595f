-- Causes: numbers rise along a log, and an entry was sent by a handling with its stamp as number.
use Rattle.std.specs.Prelude.{◌≡◌, ◌<◌, ◌⊎◌, ◌∷◌}
use Rattle.actor_theory.specs.Common.{ℕ, List, [], AllByRecursion}
use Rattle.actor_theory.specs.declared.entry.Entry.{Entry}
use Rattle.actor_theory.specs.Language.{Language}
use Rattle.actor_theory.specs.World.{World}
use Rattle.actor_theory.specs.Order.{Handling, handlings}

-- one of these handlings has this number
abbrev pub HasNumber : {C : Type 0} → ℕ → List (Handling C) → Type 0
HasNumber n [] = ⊥
HasNumber n (h ∷ hs) = (h.number ≡ n) ⊎ HasNumber n hs

-- an entry that stood there before the first handling, or one that a handling of its sender sent
abbrev pub IsCaused : {S C : Type 0} → Language S C → World C → Entry C → Type 0
IsCaused L w e = ((e.stamp ≡ 0) × (e.sender ≡ L.contexts)) ⊎ HasNumber e.stamp (handlings L e.sender (w.log e.sender))

-- each entry that was handled has a cause, and its handling a greater number than its stamp
pub record IsCausal {S C : Type 0} (L : Language S C) (w : World C) : Type 0 where
  pub causes : (d : ℕ) → AllByRecursion (IsCaused L w) (w.log d)
  pub after : (d : ℕ) → AllByRecursion (λ h. h.entry.stamp < h.number) (handlings L d (w.log d))
