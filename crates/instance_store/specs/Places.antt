-- Where channels stand, as they are found by halves.
use Rattle.std.specs.Prelude.{ℕ, suc, Bool, false, if◌then◌else◌, List, [], ◌∷◌, Option, Some, None}
use Rattle.std.specs.Str.{bytes_eq}
use Rattle.std.specs.Ordering.{is_lt, nat_cmp}
use Rattle.std.specs.Cmp.Lexicographic.{slice_cmp}

-- it is a lesser channel than this one
abbrev pub is_before : List ℕ → List ℕ → Bool
is_before channel c = is_lt (slice_cmp nat_cmp c channel)

-- how many in front pass a test
abbrev pub in_front : (List ℕ → Bool) → List (List ℕ) → ℕ
in_front p [] = 0
in_front p (c ∷ cs) = if p c then suc (in_front p cs) else 0

-- what stands at a place is this channel
abbrev pub is_at : List ℕ → Option (List ℕ) → Bool
is_at channel None = false
is_at channel (Some c) = bytes_eq c channel
