-- The place of a fault: the tokens are cut into pieces from the start, each the longest at its place, and the fault
-- stands at the first token at which no piece begins. The end outside a monitor is no fault.
use Rattle.std.specs.Prelude.{◌≡◌, ℕ, ◌≤◌, List, Option}
use Rattle.grammar_forms.specs.Rule.{Form, Made, Then, Either, IsOf, Behind}
use Rattle.epl_lexer.specs.declared.token.Token.{Token}
use Rattle.epl_tree.specs.declared.name.Name.{Name}
use Rattle.epl_tree.specs.declared.statement.Stmt.{Stmt}
use Rattle.epl_tree.specs.declared.types.TypeExpr.{TypeExpr}
use Rattle.epl_tree.specs.declared.unit.Param.{Param}
use Rattle.span_text.specs.declared.spot.Spot.{Spot}
use Rattle.primary_parser.specs.Tokens.{row_of, spot_at}
use Rattle.primary_parser.specs.Words.{brace, closing_brace}
use Rattle.decl_parser.specs.declared.region.Region.{Region}
use Rattle.decl_parser.specs.declared.region.Region.TheVariants as region
use Rattle.command_parser.specs.Words.{else_word, monitor_word}
use Rattle.command_parser.specs.Rules.{Unfollowed}
use Rattle.command_parser.specs.Commands.{IsName}
use Rattle.stmt_parser.specs.Statements.{IsStmt}
use Rattle.decl_parser.specs.Units.{IsEventDecl, IsGlobal, IsSignature, IsEnd}

module _ (tokens : List Token) where
  -- `monitor NAME {`
  abbrev pub IsMonitorHead : Form (Name × Unit {0})
  IsMonitorHead = Then (Behind (row_of tokens) monitor_word (IsName tokens)) (IsOf (row_of tokens) brace)

  -- An action from `action` to the `{` of its block.
  abbrev pub IsActionHead : Form (((Name × List Param) × Option TypeExpr) × Unit {0})
  IsActionHead = Then (IsSignature tokens) (IsOf (row_of tokens) brace)

  -- A statement with no `else` behind it.
  abbrev pub IsWholeStmt : Form Stmt
  IsWholeStmt = Unfollowed (row_of tokens) else_word (IsStmt tokens)

  -- A piece in a region, and the region behind it.
  abbrev pub IsPiece : Region → Form Region
  IsPiece region.Outside =
      Either (Made (λ _. region.Outside) (IsEventDecl tokens)) (Made (λ _. region.Monitor) IsMonitorHead)
  IsPiece region.Monitor =
      Either (Made (λ _. region.Monitor) (IsGlobal tokens))
      (Either (Made (λ _. region.Action) IsActionHead) (Made (λ _. region.Outside) (IsOf (row_of tokens) closing_brace)))
  IsPiece region.Action =
      Either (Made (λ _. region.Action) IsWholeStmt) (Made (λ _. region.Monitor) (IsOf (row_of tokens) closing_brace))

  -- A piece, and none that begins there is longer.
  pub record IsLongestPiece (here next : Region) (at end : ℕ) : Type 0 where
    pub is : IsPiece here next at end
    pub longest : (other : Region) (p : ℕ) → IsPiece here other at p → p ≤ end

  -- The cut comes to a place in a region.
  pub data Cut : Region → ℕ → Type 0 where
    Start : Cut region.Outside 0
    Next : {here next : Region} {at end : ℕ} → Cut here at → IsLongestPiece here next at end → Cut next end

  -- The place of the fault: the cut comes there, no piece begins there, and it isn't the end outside a monitor.
  pub record IsFaultAt (at : ℕ) : Type 0 where
    pub here : Region
    pub cut : Cut here at
    pub nothing : (next : Region) (end : ℕ) → IsPiece here next at end → ⊥
    pub unended : here ≡ region.Outside → IsEnd tokens at → ⊥

  -- The spot of the fault.
  pub record IsFault (spot : Spot) : Type 0 where
    pub place : ℕ
    pub stands : IsFaultAt place
    pub is : spot ≡ spot_at tokens place
