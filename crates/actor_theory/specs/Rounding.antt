-- A program's rounds, as far as they have come.
use Rattle.std.specs.Prelude.{◌≡◌, ℕ, suc, ◌+◌, ◌-◌, ◌<◌, ◌≤◌, Bool, true, false, if◌then◌else◌, None}
use Rattle.actor_theory.specs.declared.entry.Entry.{Entry}
use Rattle.actor_theory.specs.Language.{Language}
use Rattle.actor_theory.specs.World.{World, finds, turn_of, turns, round, rounds, IsQuiet}
use Rattle.actor_theory.specs.Potential.{potential}

-- a round that began at a world, before the turn of d
pub record Rounding {S C : Type 0} (L : Language S C) (weight : S → ℕ) (cost : ℕ → Entry C → ℕ) (takes : Bool) (began now : World C) (d : ℕ) (handled : Bool) : Type 0 where
  pub rest : turns L takes d (suc L.contexts - d) now ≡ round L takes began
  pub falls : potential L weight cost now + (if handled then 1 else 0) ≤ potential L weight cost began
  pub quiet : handled ≡ false → (now ≡ began) × ((k : ℕ) → k < d → finds L began k (turn_of L takes began k).1 ≡ None)

-- the round is over
pub record Rounded {S C : Type 0} (L : Language S C) (weight : S → ℕ) (cost : ℕ → Entry C → ℕ) (takes : Bool) (began now : World C) (handled : Bool) : Type 0 where
  pub is : now ≡ round L takes began
  pub falls : handled ≡ true → potential L weight cost now < potential L weight cost began
  pub quiet : handled ≡ false → (now ≡ began) × IsQuiet L takes began

-- rounds so far, and one more
pub record RoundsSoFar {S C : Type 0} (L : Language S C) (takes : Bool) (from now : World C) : Type 0 where
  pub count : ℕ
  pub reached : now ≡ rounds L takes count from
