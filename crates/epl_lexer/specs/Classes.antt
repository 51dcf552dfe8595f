-- The sets of bytes by their names in the code.
use Rattle.std.specs.Prelude.{ℕ, List}
use Rattle.epl_lexer.specs.declared.bytes.Class.{Class}
use Rattle.epl_lexer.specs.declared.bytes.Class.TheVariants.{Blank, Letter, Digit, Word, Plain}
use Rattle.epl_lexer.specs.Bytes.{blanks, letters, digits, word_bytes, plain_bytes}

-- The bytes of a class.
abbrev pub set_of : Class → List ℕ
set_of Blank = blanks
set_of Letter = letters
set_of Digit = digits
set_of Word = word_bytes
set_of Plain = plain_bytes
