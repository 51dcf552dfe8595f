-- What the answers of a sink mean.
use Rattle.std.specs.Prelude.{◌≡◌, ℕ, ◌<◌, ◌≤◌, List, ◌++◌, take, min, Bool, true, false, nat_lt, if◌then◌else◌}
use Rattle.outside.specs.declared.traits.Put.{Put}
use Rattle.outside.specs.declared.traits.Put.TheVariants as put

-- The n of an answer is from 1 to the length of the piece.
abbrev pub PutWithin : Put → ℕ → Type 0
PutWithin (put.Took n) room = (0 < n) × (n ≤ room)
PutWithin put.Failed room = Unit {0}

-- Whether a put failed.
abbrev pub is_failed_put : Put → Bool
is_failed_put (put.Took n) = false
is_failed_put put.Failed = true

-- How many bytes of the piece were taken.
abbrev pub taken_by : Put → ℕ
taken_by (put.Took n) = n
taken_by put.Failed = 0

-- What a sink has taken after a put of this piece.
abbrev pub after_put : Put → List ℕ → List ℕ → List ℕ
after_put answer piece taken = taken ++ take (taken_by answer) piece

-- A planned failure fails; else the piece is taken up to the limit of a call, or there is no memory.
abbrev pub PlannedPut : Bool → ℕ → ℕ → Put → Type 0
PlannedPut fails most size (put.Took n) = (fails ≡ false) × (n ≡ min size most)
PlannedPut fails most size put.Failed = Unit {0}

-- The answer of a sink that takes each piece whole, and fails where it has no room for that.
abbrev pub whole_put : ℕ → ℕ → Put
whole_put room size = if nat_lt room size then put.Failed else put.Took size
