-- The channels that an instance holds, in ascending order, one as often as it is held.
use Rattle.std.specs.Prelude.{◌≡◌, ℕ, Bool, true, if◌then◌else◌, List, [], ◌∷◌, length, filter}
use Rattle.std.specs.Str.{bytes_eq}
use Rattle.std.specs.List.{AllByRecursion, list_any}
use Rattle.std.specs.Ordering.{is_le, is_lt, nat_cmp}
use Rattle.std.specs.Cmp.Lexicographic.{slice_cmp}

-- one more, before the first that isn't a lesser one
abbrev pub with_one : List ℕ → List (List ℕ) → List (List ℕ)
with_one channel [] = channel ∷ []
with_one channel (c ∷ cs) = if is_lt (slice_cmp nat_cmp c channel) then c ∷ with_one channel cs else channel ∷ c ∷ cs

-- one less, where there is one
abbrev pub without_one : List ℕ → List (List ℕ) → List (List ℕ)
without_one channel [] = []
without_one channel (c ∷ cs) = if bytes_eq c channel then cs else c ∷ without_one channel cs

-- the channel is held
abbrev pub holds : List ℕ → List (List ℕ) → Bool
holds channel cs = list_any (λ c. bytes_eq c channel) cs

-- how often the channel is held
abbrev pub held_times : List ℕ → List (List ℕ) → ℕ
held_times channel cs = length (filter (λ c. bytes_eq c channel) cs)

-- no channel is greater than one behind it
abbrev pub Ascend : List (List ℕ) → Type 0
Ascend [] = Unit {0}
Ascend (c ∷ cs) = AllByRecursion (λ d. is_le (slice_cmp nat_cmp c d) ≡ true) cs × Ascend cs
