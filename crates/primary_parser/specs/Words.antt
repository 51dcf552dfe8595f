-- The signs and keywords that expressions and types are written with, by their places in the lexer's tables.
use Rattle.std.specs.Prelude.{ℕ, List, [], ◌∷◌}
use Rattle.primary_parser.specs.Tokens.{sign, keyword}

-- `{` and `}`
abbrev pub brace : List ℕ
brace = sign 0

abbrev pub closing_brace : List ℕ
closing_brace = sign 1

-- `(` and `)`
abbrev pub parenthesis : List ℕ
parenthesis = sign 2

abbrev pub closing_parenthesis : List ℕ
closing_parenthesis = sign 3

-- `[` and `]`
abbrev pub bracket : List ℕ
bracket = sign 4

abbrev pub closing_bracket : List ℕ
closing_bracket = sign 5

-- `,`, `.` and `:`
abbrev pub comma : List ℕ
comma = sign 7

abbrev pub point : List ℕ
point = sign 8

abbrev pub colon : List ℕ
colon = sign 9

-- `=`, `!=`, `<`, `<=`, `>` and `>=`
abbrev pub equals : List ℕ
equals = sign 11

abbrev pub differs : List ℕ
differs = sign 12

abbrev pub less : List ℕ
less = sign 13

abbrev pub at_most : List ℕ
at_most = sign 14

abbrev pub greater : List ℕ
greater = sign 15

abbrev pub at_least : List ℕ
at_least = sign 16

-- `+`, `-`, `*`, `/` and `%`
abbrev pub plus : List ℕ
plus = sign 17

abbrev pub minus : List ℕ
minus = sign 18

abbrev pub times : List ℕ
times = sign 19

abbrev pub divided : List ℕ
divided = sign 20

abbrev pub remainder : List ℕ
remainder = sign 21

-- Keywords of types.
abbrev pub boolean_word : List ℕ
boolean_word = keyword 5

abbrev pub context_word : List ℕ
context_word = keyword 8

abbrev pub dictionary_word : List ℕ
dictionary_word = keyword 10

abbrev pub integer_word : List ℕ
integer_word = keyword 18

abbrev pub listener_word : List ℕ
listener_word = keyword 19

abbrev pub sequence_word : List ℕ
sequence_word = keyword 31

abbrev pub string_word : List ℕ
string_word = keyword 33

-- Keywords of expressions.
abbrev pub and_word : List ℕ
and_word = keyword 2

abbrev pub false_word : List ℕ
false_word = keyword 14

abbrev pub new_word : List ℕ
new_word = keyword 22

abbrev pub not_word : List ℕ
not_word = keyword 23

abbrev pub or_word : List ℕ
or_word = keyword 25

abbrev pub true_word : List ℕ
true_word = keyword 36

abbrev pub xor_word : List ℕ
xor_word = keyword 41

-- The letters of the name `current`.
abbrev pub current_letters : List ℕ
current_letters = 99 ∷ 117 ∷ 114 ∷ 114 ∷ 101 ∷ 110 ∷ 116 ∷ []
