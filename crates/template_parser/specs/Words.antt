-- The further signs and keywords that event expressions are written with, by their places in the lexer's tables.
use Rattle.std.specs.Prelude.{ℕ, List}
use Rattle.primary_parser.specs.Tokens.{sign, keyword}

-- `->`
abbrev pub arrow : List ℕ
arrow = sign 22

abbrev pub all_word : List ℕ
all_word = keyword 1

abbrev pub as_word : List ℕ
as_word = keyword 3

abbrev pub completed_word : List ℕ
completed_word = keyword 7

abbrev pub in_word : List ℕ
in_word = keyword 17

abbrev pub unmatched_word : List ℕ
unmatched_word = keyword 37

abbrev pub wait_word : List ℕ
wait_word = keyword 38

abbrev pub within_word : List ℕ
within_word = keyword 40
