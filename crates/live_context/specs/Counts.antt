-- Instances that are kept, and how many listeners each has.
use Rattle.std.specs.Prelude.{ℕ, List, length, map, filter, ◌≡◌, ◌==◌, if◌then◌else◌}
use Rattle.context_meaning.specs.declared.context.Instance.{Instance}
use Rattle.context_meaning.specs.Contexts.{is_its}
use Rattle.context_meaning.specs.Listeners.{Listener}
use Rattle.live_context.specs.declared.instances.LiveInstance.{LiveInstance}

abbrev pub instances_in : List LiveInstance → List Instance
instances_in lives = map (λ x. x.instance) lives

abbrev pub counts_in : List LiveInstance → List ℕ
counts_in lives = map (λ x. x.listeners) lives

-- how many of these listeners an instance has
abbrev pub count_its : List Listener → ℕ → ℕ
count_its listeners instance = length (filter (is_its instance) listeners)

-- these are the counts of the instances, one for each
abbrev pub AreCounts : (ℕ → ℕ) → List Instance → List ℕ → Type 0
AreCounts count instances counts = counts ≡ map (λ i. count i.number) instances

-- the same counts, but this one for the instance with this number
abbrev pub with_count : ℕ → ℕ → (ℕ → ℕ) → ℕ → ℕ
with_count number n count k = if k == number then n else count k
