-- The tokens of a text, and the place at which it has none.
use Rattle.std.specs.Prelude.{◌≡◌, ℕ, ◌<◌, if◌then◌else◌, List, [], ◌∷◌, ◌++◌, ⊤, length, Bool, ◌&&◌, slice_range, Result, Ok, Err, ◌⊎◌}
use Rattle.std.specs.List.{All}
use Rattle.std.specs.Str.{IsUtf8}
use Rattle.grammar_forms.specs.Rule.{has}
use Rattle.span_text.specs.declared.spot.Spot.{Spot}
use Rattle.span_text.specs.Place.{place_of}
use Rattle.epl_lexer.specs.declared.token.Kind.{Kind}
use Rattle.epl_lexer.specs.declared.token.Kind.TheVariants.{End}
use Rattle.epl_lexer.specs.declared.token.Token.{Token}
use Rattle.epl_lexer.specs.declared.fault.LexFault.{LexFault}
use Rattle.epl_lexer.specs.declared.fault.LexFault.TheVariants.{Lex, Memory}
use Rattle.epl_lexer.specs.Bytes.{row_of}
use Rattle.epl_lexer.specs.Spelling.{IsToken, IsLongest, NoSpace, IsGap}

-- Whether a text begins with the byte order mark: the bytes EF, BB and BF.
abbrev pub is_marked : List ℕ → Bool
is_marked text = has (row_of text) (239 ∷ []) 0 && has (row_of text) (187 ∷ []) 1 && has (row_of text) (191 ∷ []) 2

-- Where the tokens of a text begin: behind its byte order mark, if it has one.
unfoldable pub start_of : List ℕ → ℕ
start_of text = if is_marked text then 3 else 0

-- Line and column of a place; the byte order mark has no column.
abbrev pub spot_of : List ℕ → ℕ → Spot
spot_of text at = place_of (slice_range text (start_of text) at)

-- The list ends with an end, and has no other.
abbrev pub EndsOnce : List Token → Type 0
EndsOnce tokens =
    (before : List Token) × (last : Token) × (tokens ≡ before ++ last ∷ []) × (last.kind ≡ End) × All (λ t. t.kind ≡ End → ⊥) before

module _ (text : List ℕ) where
  -- The token is the longest at its place.
  abbrev pub Stands : Token → Type 0
  Stands t = IsLongest text t.kind t.from t.to × (t.spot ≡ spot_of text t.from)

  -- From a place up to another there are these tokens, and only blanks and comments lie before, between and behind them.
  abbrev pub Lexes : List Token → ℕ → ℕ → Type 0
  Lexes [] at end = IsGap text at end
  Lexes (t ∷ rest) at end = IsGap text at t.from × Stands t × Lexes rest t.to end

  -- The token that ends the list, behind the text.
  abbrev pub end_token : Token
  end_token = record { kind = End; from = length text; to = length text; spot = spot_of text (length text) }

  -- The tokens of the text: those that span it, and the end.
  unfoldable pub AreTokens : List Token → Type 0
  AreTokens tokens =
      (spanning : List Token) × (tokens ≡ spanning ++ end_token ∷ []) × Lexes spanning (start_of text) (length text)

  -- Neither a token nor a blank nor a comment begins there: a character that begins none, or the start of an unfinished string or comment.
  pub record NothingBegins (at : ℕ) : Type 0 where
    pub no_token : (k : Kind) (end : ℕ) → IsToken text k at end → ⊥
    pub no_space : NoSpace text at

  -- Up to the fault's place the text is tokens, and there nothing begins.
  pub record IsLexFault (spot : Spot) : Type 0 where
    pub place : ℕ
    pub spanning : List Token
    pub lexed : Lexes spanning (start_of text) place
    pub inside : place < length text
    pub nothing : NothingBegins place
    pub is : spot ≡ spot_of text place

  -- What the answer says of the text: its only list of tokens, or where it has none and that it has none. Want of memory is free.
  abbrev pub TellsTokens : Result (List Token) LexFault → Type 0
  TellsTokens (Ok tokens) = AreTokens tokens × ((others : List Token) → AreTokens others → others ≡ tokens)
  TellsTokens (Err (Lex spot)) = IsLexFault spot × ((others : List Token) → AreTokens others → ⊥)
  TellsTokens (Err Memory) = ⊤

  -- The same for bytes that may not be UTF-8: then the fault is at line 1, column 1.
  abbrev pub TellsTokensOfBytes : Result (List Token) LexFault → Type 0
  TellsTokensOfBytes (Ok tokens) = IsUtf8 text × TellsTokens (Ok tokens)
  TellsTokensOfBytes (Err (Lex spot)) =
      (IsUtf8 text × TellsTokens (Err (Lex spot))) ⊎ ((IsUtf8 text → ⊥) × (spot ≡ place_of []))
  TellsTokensOfBytes (Err Memory) = ⊤
