-- The trees of the bytes of files, and why files have none.
use Rattle.std.specs.Prelude.{◌≡◌, ℕ, ◌⊎◌, List, [], ◌∷◌, ◌++◌, take, Some, slice_get, Result, Ok, Err}
use Rattle.std.specs.Str.{IsUtf8}
use Rattle.span_text.specs.declared.spot.Spot.{Spot}
use Rattle.span_text.specs.Place.{place_of}
use Rattle.epl_lexer.specs.declared.token.Token.{Token}
use Rattle.epl_lexer.specs.Tokens.{AreTokens, IsLexFault}
use Rattle.epl_tree.specs.declared.unit.Unit.{Unit as Tree}
use Rattle.decl_parser.specs.Units.{IsUnit}
use Rattle.decl_parser.specs.Pieces.{IsFault as IsSyntaxFault}
use Rattle.epl_syntax.specs.declared.fault.SyntaxFault.{SyntaxFault}
use Rattle.epl_syntax.specs.declared.fault.SyntaxFault.TheVariants.{Lex, Syntax, Memory}

-- the tree of a file's bytes
pub record IsTree (bytes : List ℕ) (tree : Tree) : Type 0 where
  pub utf8 : IsUtf8 bytes
  pub tokens : List Token
  pub lexed : AreTokens bytes tokens
  pub parsed : IsUnit tokens tree

-- the trees of files, one by one
abbrev pub AreTrees : List (List ℕ) → List Tree → Type 0
AreTrees [] [] = Unit {0}
AreTrees (bytes ∷ texts) (tree ∷ trees) = IsTree bytes tree × AreTrees texts trees
AreTrees texts trees = ⊥

-- the first place where no token begins; that of bytes that aren't UTF-8 is the first one
abbrev pub IsUnread : List ℕ → Spot → Type 0
IsUnread bytes spot = (IsUtf8 bytes × IsLexFault bytes spot) ⊎ ((IsUtf8 bytes → ⊥) × (spot ≡ place_of []))

-- there are tokens, and this is the place of the syntax fault
pub record IsUnparsed (bytes : List ℕ) (spot : Spot) : Type 0 where
  pub utf8 : IsUtf8 bytes
  pub tokens : List Token
  pub lexed : AreTokens bytes tokens
  pub fault : IsSyntaxFault tokens spot

abbrev pub HasNoTree : List ℕ → Type 0
HasNoTree bytes = (other : Tree) → IsTree bytes other → ⊥

-- the first file without a tree, with what is said of its bytes
pub record IsFirstWithout (texts : List (List ℕ)) (file : ℕ) (Says : List ℕ → Type 0) : Type 0 where
  pub bytes : List ℕ
  pub there : slice_get texts file ≡ Some bytes
  pub trees : List Tree
  pub before : AreTrees (take file texts) trees
  pub none : HasNoTree bytes
  pub says : Says bytes

-- the only trees of files
abbrev pub AreOnlyTrees : List (List ℕ) → List Tree → Type 0
AreOnlyTrees texts trees = AreTrees texts trees × ((others : List Tree) → AreTrees texts others → others ≡ trees)

abbrev pub HaveNoTrees : List (List ℕ) → Type 0
HaveNoTrees texts = (others : List Tree) → AreTrees texts others → ⊥

-- the only trees of files, or the first file without one, and why it has none; want of memory is free
abbrev pub TreesTold : List (List ℕ) → Result (List Tree) SyntaxFault → Type 0
TreesTold texts (Ok trees) = AreOnlyTrees texts trees
TreesTold texts (Err (Lex file spot)) = IsFirstWithout texts file (λ bytes. IsUnread bytes spot) × HaveNoTrees texts
TreesTold texts (Err (Syntax file spot)) = IsFirstWithout texts file (λ bytes. IsUnparsed bytes spot) × HaveNoTrees texts
TreesTold texts (Err Memory) = Unit {0}

-- ---- one file

-- the only tokens of the bytes of the file at this place, or where they have none
abbrev pub TokensTold : ℕ → List ℕ → Result (List Token) SyntaxFault → Type 0
TokensTold place bytes (Ok tokens) = IsUtf8 bytes × AreTokens bytes tokens × ((others : List Token) → AreTokens bytes others → others ≡ tokens)
TokensTold place bytes (Err (Lex file spot)) = (file ≡ place) × IsUnread bytes spot × (IsUtf8 bytes → (others : List Token) → AreTokens bytes others → ⊥)
TokensTold place bytes (Err (Syntax file spot)) = ⊥
TokensTold place bytes (Err Memory) = Unit {0}

-- the only tree of the tokens, or where they have none
abbrev pub ParseTold : ℕ → List Token → Result Tree SyntaxFault → Type 0
ParseTold place tokens (Ok tree) = IsUnit tokens tree × ((other : Tree) → IsUnit tokens other → other ≡ tree)
ParseTold place tokens (Err (Lex file spot)) = ⊥
ParseTold place tokens (Err (Syntax file spot)) = (file ≡ place) × IsSyntaxFault tokens spot × ((other : Tree) → IsUnit tokens other → ⊥)
ParseTold place tokens (Err Memory) = Unit {0}

-- the only tree of the bytes of the file at this place, or why they have none
abbrev pub TreeTold : ℕ → List ℕ → Result Tree SyntaxFault → Type 0
TreeTold place bytes (Ok tree) = IsTree bytes tree × ((other : Tree) → IsTree bytes other → other ≡ tree)
TreeTold place bytes (Err (Lex file spot)) = (file ≡ place) × IsUnread bytes spot × HasNoTree bytes
TreeTold place bytes (Err (Syntax file spot)) = (file ≡ place) × IsUnparsed bytes spot × HasNoTree bytes
TreeTold place bytes (Err Memory) = Unit {0}

-- trees and the only tree of the bytes of the file at this place behind them, or why they have none
abbrev pub MoreTold : List Tree → ℕ → List ℕ → Result (List Tree) SyntaxFault → Type 0
MoreTold trees place bytes (Ok all) = (tree : Tree) × (all ≡ trees ++ tree ∷ []) × TreeTold place bytes (Ok tree)
MoreTold trees place bytes (Err why) = TreeTold place bytes (Err why)
