-- A measure that each step lowers.
use Rattle.std.specs.Prelude.{◌≡◌, ◌+◌, ◌≤◌, ◌<◌, ◌∷◌, ◌++◌}
use Rattle.actor_theory.specs.Common.{ℕ, zero, suc, List, [], false}
use Rattle.actor_theory.specs.declared.entry.Entry.{Entry}
use Rattle.actor_theory.specs.Language.{Sent}
use Rattle.actor_theory.specs.Language.{Language, Moment, next, naive, number_after, stamped}
use Rattle.actor_theory.specs.World.{World}

-- the sum of what each costs
abbrev pub total : {X : Type 0} → (X → ℕ) → List X → ℕ
total cost [] = 0
total cost (x ∷ xs) = cost x + total cost xs

-- what an entry that waits at d may still bring about
abbrev pub entry_cost : {C : Type 0} → (ℕ → Entry C → ℕ) → ℕ → ℕ → Sent C → ℕ
entry_cost cost s number x = cost x.target (stamped s number x)

-- an actor can pay for all that a handling sends
abbrev pub Pays : {S C : Type 0} → Language S C → (S → ℕ) → (ℕ → Entry C → ℕ) → ℕ → Moment S → Entry C → Type 0
Pays L weight cost d m e = weight (next L m e).state + total (entry_cost cost d (number_after m.number e)) (L.sent m.state (number_after m.number e) e) < weight m.state + cost d e

-- a weight of states and a cost of waiting entries, which pay for all that a handling sends, wherever it gives such a log
pub record IsMeasure {S C : Type 0} (L : Language S C) (IsLog : ℕ → List (Entry C) → Type 0) (weight : S → ℕ) (cost : ℕ → Entry C → ℕ) : Type 0 where
  pub pays : (d : ℕ) (log : List (Entry C)) (e : Entry C) → d ≤ L.contexts → IsLog d (log ++ e ∷ []) → L.is_spent (naive L d log).state ≡ false → Pays L weight cost d (naive L d log) e

-- the sum over the numbers below n
abbrev pub sum_to : ℕ → (ℕ → ℕ) → ℕ
sum_to zero f = 0
sum_to (suc n) f = sum_to n f + f n

-- an actor's part: the weight of its state, and the cost of its queue
abbrev pub part : {S C : Type 0} → Language S C → (S → ℕ) → (ℕ → Entry C → ℕ) → World C → ℕ → ℕ
part L weight cost w d = weight (naive L d (w.log d)).state + total (cost d) (w.queue d)

-- the sum over the actors
abbrev pub potential : {S C : Type 0} → Language S C → (S → ℕ) → (ℕ → Entry C → ℕ) → World C → ℕ
potential L weight cost w = sum_to (suc L.contexts) (part L weight cost w)
