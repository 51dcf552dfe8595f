-- Listeners and instances in ascending order of their numbers.
use Rattle.std.specs.Prelude.{ℕ, suc, List, [], ◌∷◌, ◌<◌, ◌≤◌, nat_lt, if◌then◌else◌}
use Rattle.context_meaning.specs.declared.context.Instance.{Instance}
use Rattle.context_meaning.specs.Listeners.{Listener}
use Rattle.live_context.specs.Counts.{AreCounts, count_its}

abbrev pub number_of : Instance → ℕ
number_of i = i.number

abbrev pub birth_of : Listener → ℕ
birth_of l = l.birth

abbrev pub owner_of : Listener → ℕ
owner_of l = l.instance

-- the numbers ascend, and all are above this one
abbrev pub Ascend : {A : Type 0} → (A → ℕ) → ℕ → List A → Type 0
Ascend n low [] = Unit {0}
Ascend n low (x ∷ xs) = (low < n x) × Ascend n (n x) xs

-- no number is above this one
abbrev pub Within : {A : Type 0} → (A → ℕ) → ℕ → List A → Type 0
Within n high [] = Unit {0}
Within n high (x ∷ xs) = (n x ≤ high) × Within n high xs

-- how many at the front have lesser numbers
abbrev pub below : {A : Type 0} → (A → ℕ) → ℕ → List A → ℕ
below n k [] = 0
below n k (x ∷ xs) = if nat_lt (n x) k then suc (below n k xs) else 0

-- listeners in order of birth, and instances in order of beginning, of those that were born and begun; the listeners are of
-- instances that were begun, and how many each instance has is counted
pub record InOrder (births begun : ℕ) (listeners : List Listener) (instances : List Instance) (counts : List ℕ) : Type 0 where
  pub births_ascend : Ascend birth_of 0 listeners
  pub births_within : Within birth_of births listeners
  pub owners_within : Within owner_of begun listeners
  pub numbers_ascend : Ascend number_of 0 instances
  pub numbers_within : Within number_of begun instances
  pub counted : AreCounts (count_its listeners) instances counts
