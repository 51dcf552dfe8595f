-- The longest token at a place, read from left to right.
use Rattle.std.specs.Prelude.{ℕ, ◌+◌, ◌-◌, ◌&&◌, if◌then◌else◌, nat_le, List, length, slice_index_or, slice_range, Option, Some, None}
use Rattle.grammar_forms.specs.Rule.{has}
use Rattle.grammar_forms.specs.Reader.{Reader, made, and_then, and_many, or_else, item_of, run_end}
use Rattle.epl_lexer.specs.declared.token.Kind.{Kind}
use Rattle.epl_lexer.specs.declared.token.Kind.TheVariants.{Name, Keyword, Integer, Decimal, Quoted, Sign}
use Rattle.epl_lexer.specs.Bytes.{row_of, digits, letters, word_bytes, quote, backslash, point, plain_bytes, escape_bytes}
use Rattle.epl_lexer.specs.Spelling.{keyword_number, sign_number, escaped, begins_comment}

-- A word is a keyword where it has a number, else a name.
abbrev pub word_kind : List ℕ → Option ℕ → Kind
word_kind word None = Name word
word_kind word (Some number) = Keyword number

-- A sign of a number and where it ends.
abbrev pub sign_found : ℕ → Option ℕ → Option (ℕ × ℕ)
sign_found end None = None
sign_found end (Some number) = Some (number, end)

module _ (text : List ℕ) where
  -- Where the bytes of a set end that stand from a place on.
  abbrev pub past : List ℕ → ℕ → ℕ
  past set at = run_end (row_of text) set (length text - at) at

  -- The word at a place where a letter stands.
  unfoldable pub word : ℕ → Kind × ℕ
  word at = (word_kind (slice_range text at (past word_bytes at)) (keyword_number (slice_range text at (past word_bytes at))), past word_bytes at)

  -- The number whose first digits end at a place.
  abbrev pub number_behind : ℕ → ℕ → Kind × ℕ
  number_behind at whole =
      if has (row_of text) point whole && has (row_of text) digits (whole + 1)
      then (Decimal (slice_range text at (past digits (whole + 1))), past digits (whole + 1))
      else (Integer (slice_range text at whole), whole)

  -- The number at a place where a digit stands.
  unfoldable pub number : ℕ → Kind × ℕ
  number at = number_behind at (past digits at)

  -- One byte of a set.
  abbrev pub byte_of : List ℕ → Reader ℕ
  byte_of set at = if has (row_of text) set at then Some (slice_index_or text at 256, at + 1) else None

  -- A character of a string.
  unfoldable pub character : Reader ℕ
  character at =
      or_else (byte_of plain_bytes at)
      (made (λ x. escaped x.1) (and_then (item_of (row_of text) backslash at) (byte_of escape_bytes)))

  -- A string.
  unfoldable pub quoted : Reader (List ℕ)
  quoted at =
      made (λ x. x.0.1)
      (and_then (and_many (length text) (item_of (row_of text) quote at) character) (item_of (row_of text) quote))

  -- A sign of so many bytes.
  unfoldable pub sign_of : ℕ → ℕ → Option (ℕ × ℕ)
  sign_of at len =
      if nat_le (at + len) (length text)
      then sign_found (at + len) (sign_number (slice_range text at (at + len)))
      else None

  -- A sign: of two bytes, or else of one.
  unfoldable pub sign : Reader ℕ
  sign at = if begins_comment text at then None else or_else (sign_of at 2) (sign_of at 1)

  -- The token at a place.
  unfoldable pub token : Reader Kind
  token at =
      if has (row_of text) letters at
      then Some (word at)
      else
      if has (row_of text) digits at
      then Some (number at)
      else if has (row_of text) quote at then made Quoted (quoted at) else made Sign (sign at)
