-- The lines of a file.
use Rattle.std.specs.Prelude.{◌≡◌, ◌<◌, ◌&&◌, ◌==◌, ◌∷◌, ℕ, List, [], length, if◌then◌else◌, Option, Some, None}
use Rattle.std.specs.Str.Lines.{lines}

-- the bytes of a file without the byte order mark that may lead them
abbrev pub without_mark : List ℕ → List ℕ
without_mark (a ∷ b ∷ c ∷ rest) = if a == 239 && (b == 187 && c == 191) then rest else a ∷ b ∷ c ∷ rest
without_mark bytes = bytes

-- the lines of a file
abbrev pub lines_of : List ℕ → List (List ℕ)
lines_of bytes = lines (without_mark bytes)

-- the first line is taken off, or there is none
abbrev pub TakesOff : List ℕ → List ℕ → Option (List ℕ) → Type 0
TakesOff old new None = old ≡ []
TakesOff old new (Some line) = (lines old ≡ line ∷ lines new) × (length new < length old)
