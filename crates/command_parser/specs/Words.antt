-- The signs and keywords that statements and declarations are written with, by their places in the lexer's tables.
use Rattle.std.specs.Prelude.{ℕ, List, [], ◌∷◌}
use Rattle.primary_parser.specs.Tokens.{sign, keyword}

-- `;` and `:=`
abbrev pub semicolon : List ℕ
semicolon = sign 6

abbrev pub assigns : List ℕ
assigns = sign 10

-- Keywords of statements.
abbrev pub at_word : List ℕ
at_word = keyword 4

abbrev pub break_word : List ℕ
break_word = keyword 6

abbrev pub continue_word : List ℕ
continue_word = keyword 9

abbrev pub die_word : List ℕ
die_word = keyword 11

abbrev pub else_word : List ℕ
else_word = keyword 12

abbrev pub for_word : List ℕ
for_word = keyword 15

abbrev pub if_word : List ℕ
if_word = keyword 16

abbrev pub in_word : List ℕ
in_word = keyword 17

abbrev pub log_word : List ℕ
log_word = keyword 20

abbrev pub on_word : List ℕ
on_word = keyword 24

abbrev pub print_word : List ℕ
print_word = keyword 26

abbrev pub return_word : List ℕ
return_word = keyword 27

abbrev pub route_word : List ℕ
route_word = keyword 29

abbrev pub send_word : List ℕ
send_word = keyword 30

abbrev pub spawn_word : List ℕ
spawn_word = keyword 32

abbrev pub then_word : List ℕ
then_word = keyword 34

abbrev pub to_word : List ℕ
to_word = keyword 35

abbrev pub while_word : List ℕ
while_word = keyword 39

-- Keywords of declarations.
abbrev pub action_word : List ℕ
action_word = keyword 0

abbrev pub event_word : List ℕ
event_word = keyword 13

abbrev pub monitor_word : List ℕ
monitor_word = keyword 21

abbrev pub returns_word : List ℕ
returns_word = keyword 28

-- The letters of each level of the log.
abbrev pub crit_letters : List ℕ
crit_letters = 67 ∷ 82 ∷ 73 ∷ 84 ∷ []

abbrev pub fatal_letters : List ℕ
fatal_letters = 70 ∷ 65 ∷ 84 ∷ 65 ∷ 76 ∷ []

abbrev pub error_letters : List ℕ
error_letters = 69 ∷ 82 ∷ 82 ∷ 79 ∷ 82 ∷ []

abbrev pub warn_letters : List ℕ
warn_letters = 87 ∷ 65 ∷ 82 ∷ 78 ∷ []

abbrev pub info_letters : List ℕ
info_letters = 73 ∷ 78 ∷ 70 ∷ 79 ∷ []

abbrev pub debug_letters : List ℕ
debug_letters = 68 ∷ 69 ∷ 66 ∷ 85 ∷ 71 ∷ []

abbrev pub trace_letters : List ℕ
trace_letters = 84 ∷ 82 ∷ 65 ∷ 67 ∷ 69 ∷ []
