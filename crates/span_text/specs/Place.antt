-- Lines and columns of the places of a text.
use Rattle.std.specs.Prelude.{ℕ, ◌+◌, ◌==◌, if◌then◌else◌, Bool, not, List}
use Rattle.std.specs.List.{count_by, suffix_len}
use Rattle.span_text.specs.declared.spot.Spot.{Spot}

-- Whether a byte is a newline.
abbrev pub is_newline : ℕ → Bool
is_newline byte = byte == 10

-- How many bytes stand behind the last newline, or in all where there is none.
abbrev pub since_newline : List ℕ → ℕ
since_newline bytes = suffix_len (λ byte. not (is_newline byte)) bytes

-- The place behind these bytes of a text: its line is one more than the newlines among them, its column one more than the bytes since the last one.
unfoldable pub place_of : List ℕ → Spot
place_of before = record { line = 1 + count_by is_newline before; column = 1 + since_newline before }

-- The place behind one byte more.
abbrev pub place_after : Spot → ℕ → Spot
place_after s byte = if is_newline byte then record { line = s.line + 1; column = 1 } else record { line = s.line; column = s.column + 1 }
