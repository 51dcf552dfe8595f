-- What spells a token, a blank and a comment. A form says what stands from one place of the text up to before another.
use Rattle.std.specs.Prelude.{◌≡◌, ℕ, ◌+◌, ◌<◌, ◌≤◌, ◌==◌, ◌&&◌, ◌⊎◌, if◌then◌else◌, Bool, true, false, List, [], ◌∷◌, length, slice_index_or, slice_range, Option, Some, None}
use Rattle.std.specs.List.{position}
use Rattle.std.specs.Str.{bytes_eq}
use Rattle.grammar_forms.specs.Rule.{Form, Made, Then, Many, Either, Starting, IsOf, IsRun, has}
use Rattle.epl_lexer.specs.declared.token.Kind.{Kind}
use Rattle.epl_lexer.specs.declared.token.Kind.TheVariants as kind
use Rattle.epl_lexer.specs.declared.token.TheConstants.{KEYWORDS, SIGNS}
use Rattle.epl_lexer.specs.Bytes.{row_of, digits, letters, word_bytes, blanks, quote, backslash, point, newline, slash, star, plain_bytes, escape_bytes}

-- The number of a keyword: its place among the keywords.
unfoldable pub keyword_number : List ℕ → Option ℕ
keyword_number word = position (λ k. bytes_eq k.now word) KEYWORDS

-- The number of a sign: its place among the signs.
unfoldable pub sign_number : List ℕ → Option ℕ
sign_number word = position (λ s. bytes_eq s.now word) SIGNS

-- The byte for which an escape stands: newline, carriage return and tab for `n`, `r` and `t`, else the byte itself.
abbrev pub escaped : ℕ → ℕ
escaped byte = if byte == 110 then 10 else if byte == 114 then 13 else if byte == 116 then 9 else byte

module _ (text : List ℕ) where
  -- Bytes of a set, at least one.
  abbrev pub Run : List ℕ → Form (Unit {0})
  Run set _ at end = IsRun (row_of text) set at end

  -- One byte of a set, told.
  abbrev pub IsByte : List ℕ → Form ℕ
  IsByte set byte at end = ((slice_index_or text at 256 ≡ byte) × (has (row_of text) set at ≡ true)) × (end ≡ at + 1)

  -- A letter or `_`, then letters, digits and `_`.
  abbrev pub IsWord : Form (Unit {0})
  IsWord = Starting (row_of text) letters (Run word_bytes)

  -- One or more digits.
  abbrev pub IsWhole : Form (Unit {0})
  IsWhole = Run digits

  -- Digits, `.`, digits.
  abbrev pub IsFraction : Form (Unit {0} × (Unit {0} × Unit {0}))
  IsFraction = Then (Run digits) (Then (IsOf (row_of text) point) (Run digits))

  -- An escape, told as the byte for which it stands.
  abbrev pub IsEscape : Form ℕ
  IsEscape = Made (λ x. escaped x.1) (Then (IsOf (row_of text) backslash) (IsByte escape_bytes))

  -- A byte that stands for itself, or an escape.
  abbrev pub IsCharacter : Form ℕ
  IsCharacter = Either (IsByte plain_bytes) IsEscape

  -- `"`, characters, `"`; its value is the characters.
  abbrev pub IsQuoted : Form (List ℕ)
  IsQuoted =
      Made (λ x. x.0.1) (Then (Then (IsOf (row_of text) quote) (Many IsCharacter)) (IsOf (row_of text) quote))

  -- Whether a comment begins at a place: `//` or `/*`.
  abbrev pub begins_comment : ℕ → Bool
  begins_comment at = has (row_of text) slash at && has (row_of text) (47 ∷ 42 ∷ []) (at + 1)

  -- What spells a token of a kind. A keyword's and a sign's spelling is in their tables; a NAME is no keyword.
  abbrev pub Spells : Kind → ℕ → ℕ → Type 0
  Spells (kind.Name name) at end =
      IsWord tt at end × (name ≡ slice_range text at end) × (keyword_number name ≡ None)
  Spells (kind.Keyword number) at end = IsWord tt at end × (keyword_number (slice_range text at end) ≡ Some number)
  Spells (kind.Integer number) at end = IsWhole tt at end × (number ≡ slice_range text at end)
  Spells (kind.Decimal number) at end = IsFraction (tt, (tt, tt)) at end × (number ≡ slice_range text at end)
  Spells (kind.Quoted value) at end = IsQuoted value at end
  Spells (kind.Sign number) at end = (end ≤ length text) × (sign_number (slice_range text at end) ≡ Some number)
  Spells kind.End at end = ⊥

  -- A token: where a comment begins, there is none.
  abbrev pub IsToken : Kind → ℕ → ℕ → Type 0
  IsToken k at end = (begins_comment at ≡ false) × Spells k at end

  -- The longest token at its place.
  pub record IsLongest (k : Kind) (at end : ℕ) : Type 0 where
    pub token : IsToken k at end
    pub longest : (other : Kind) (past : ℕ) → IsToken other at past → past ≤ end

  -- A comment from `//` to the end of the line, which is before its newline or at the end of the text.
  pub record IsLineComment (at end : ℕ) : Type 0 where
    pub opens : (has (row_of text) slash at ≡ true) × (has (row_of text) slash (at + 1) ≡ true)
    pub behind : at + 2 ≤ end
    pub within : end ≤ length text
    pub on_line : (i : ℕ) → at + 2 ≤ i → i < end → has (row_of text) newline i ≡ false
    pub stops : end < length text → has (row_of text) newline end ≡ true

  -- Whether `*/` stands at a place.
  abbrev pub closes : ℕ → Bool
  closes at = has (row_of text) star at && has (row_of text) slash (at + 1)

  -- A comment from `/*` to the next `*/`, which stands at `last`.
  pub record IsBlockComment (at end : ℕ) : Type 0 where
    pub opens : (has (row_of text) slash at ≡ true) × (has (row_of text) star (at + 1) ≡ true)
    pub last : ℕ
    pub behind : at + 2 ≤ last
    pub closed : closes last ≡ true
    pub first : (i : ℕ) → at + 2 ≤ i → i < last → closes i ≡ false
    pub ends : end ≡ last + 2

  -- A blank or a comment.
  abbrev pub IsSpace : Form (Unit {0})
  IsSpace x at end = IsOf (row_of text) blanks x at end ⊎ (IsLineComment at end ⊎ IsBlockComment at end)

  -- Neither a blank nor a comment begins there.
  abbrev pub NoSpace : ℕ → Type 0
  NoSpace at = (end : ℕ) → IsSpace tt at end → ⊥

  -- Blanks and comments alone, any number of them.
  abbrev pub IsGap : ℕ → ℕ → Type 0
  IsGap at end = (spaces : List (Unit {0})) × Many IsSpace spaces at end
