-- The bytes of a text by their places, and the sets of bytes of which tokens are made.
use Rattle.std.specs.Prelude.{ℕ, zero, suc, ◌+◌, List, [], ◌∷◌, ◌++◌, length, slice_index_or}
use Rattle.grammar_forms.specs.Rule.{Row}

-- A text as a row of bytes; past its end there is the class 256, which no byte has.
abbrev pub row_of : List ℕ → Row
row_of text = record { class = λ i. slice_index_or text i 256; len = length text }

-- So many numbers in a row.
unfoldable pub from_on : ℕ → ℕ → List ℕ
from_on first zero = []
from_on first (suc n) = first ∷ from_on (first + 1) n

-- `0` to `9`.
unfoldable pub digits : List ℕ
digits = from_on 48 10

-- `_`, `A` to `Z` and `a` to `z`.
unfoldable pub letters : List ℕ
letters = 95 ∷ from_on 65 26 ++ from_on 97 26

-- Letters, `_` and digits.
unfoldable pub word_bytes : List ℕ
word_bytes = letters ++ digits

-- Space, tab, carriage return and newline.
abbrev pub blanks : List ℕ
blanks = 32 ∷ 9 ∷ 13 ∷ 10 ∷ []

-- `"`.
abbrev pub quote : List ℕ
quote = 34 ∷ []

-- `\`.
abbrev pub backslash : List ℕ
backslash = 92 ∷ []

-- `.`.
abbrev pub point : List ℕ
point = 46 ∷ []

-- Newline.
abbrev pub newline : List ℕ
newline = 10 ∷ []

-- `/`.
abbrev pub slash : List ℕ
slash = 47 ∷ []

-- `*`.
abbrev pub star : List ℕ
star = 42 ∷ []

-- The bytes that stand for themselves in a STRING: all but `"`, `\` and newline.
unfoldable pub plain_bytes : List ℕ
plain_bytes = from_on 0 10 ++ from_on 11 23 ++ from_on 35 57 ++ from_on 93 163

-- What may stand behind the `\` of an escape: `"`, `\`, `n`, `r` and `t`.
abbrev pub escape_bytes : List ℕ
escape_bytes = 34 ∷ 92 ∷ 110 ∷ 114 ∷ 116 ∷ []
