-- Program files as they are written:
--   unit      = { eventdecl | monitor } .
--   eventdecl = "event" NAME "{" { type NAME ";" } "}" .
--   monitor   = "monitor" NAME "{" { global | action } "}" .
--   global    = type NAME [ ":=" expr ] ";" .
--   action    = "action" NAME "(" [ param { "," param } ] ")" [ "returns" type ] block .
--   param     = type NAME .
use Rattle.std.specs.Prelude.{◌≡◌, ℕ, List, Option}
use Rattle.grammar_forms.specs.Rule.{Form, Made, Then, Many, Either, Optional, Behind, Separated}
use Rattle.epl_lexer.specs.declared.token.Token.{Token}
use Rattle.epl_lexer.specs.declared.token.Kind.TheVariants.{End}
use Rattle.epl_tree.specs.declared.expression.Expr.{Expr}
use Rattle.epl_tree.specs.declared.name.Name.{Name}
use Rattle.epl_tree.specs.declared.statement.Stmt.{Stmt}
use Rattle.epl_tree.specs.declared.types.TypeExpr.{TypeExpr}
use Rattle.epl_tree.specs.declared.unit.ActionDecl.{ActionDecl}
use Rattle.epl_tree.specs.declared.unit.Declaration.{Declaration}
use Rattle.epl_tree.specs.declared.unit.Declaration.TheVariants as declaration
use Rattle.epl_tree.specs.declared.unit.EventDecl.{EventDecl}
use Rattle.epl_tree.specs.declared.unit.FieldDecl.{FieldDecl}
use Rattle.epl_tree.specs.declared.unit.GlobalDecl.{GlobalDecl}
use Rattle.epl_tree.specs.declared.unit.Member.{Member}
use Rattle.epl_tree.specs.declared.unit.Member.TheVariants as member
use Rattle.epl_tree.specs.declared.unit.MonitorDecl.{MonitorDecl}
use Rattle.epl_tree.specs.declared.unit.Param.{Param}
use Rattle.epl_tree.specs.declared.unit.Unit.{Unit as ProgramFile}
use Rattle.span_text.specs.declared.spot.Spot.{Spot}
use Rattle.primary_parser.specs.Tokens.{row_of, kind_at}
use Rattle.primary_parser.specs.Rules.{Placed, Enclosed}
use Rattle.primary_parser.specs.Words.{parenthesis, closing_parenthesis, comma}
use Rattle.primary_parser.specs.Types.{IsType}
use Rattle.primary_parser.specs.Grammar.{IsExpr}
use Rattle.command_parser.specs.Words.{semicolon, assigns, action_word, event_word, monitor_word, returns_word}
use Rattle.command_parser.specs.Rules.{Before, Braced}
use Rattle.command_parser.specs.Commands.{IsName, IsTyped}
use Rattle.stmt_parser.specs.Statements.{IsStmt}

abbrev pub field_of : TypeExpr × Name → FieldDecl
field_of x = record { shape = x.0; name = x.1 }

abbrev pub param_of : TypeExpr × Name → Param
param_of x = record { shape = x.0; name = x.1 }

-- A variable of a monitor, with its initial value if it is given.
abbrev pub global_of : (TypeExpr × Name) × Option Expr → GlobalDecl
global_of x = record { shape = x.0.0; name = x.0.1; initial = x.1 }

-- An action: its name, its parameters, the type of its result if it has one, its body.
abbrev pub action_of : Spot → ((Name × List Param) × Option TypeExpr) × List Stmt → ActionDecl
action_of spot x = record { spot = spot; name = x.0.0.0; params = x.0.0.1; result = x.0.1; body = x.1 }

abbrev pub event_of : Spot → Name × List FieldDecl → EventDecl
event_of spot x = record { spot = spot; name = x.0; fields = x.1 }

abbrev pub monitor_of : Spot → Name × List Member → MonitorDecl
monitor_of spot x = record { spot = spot; name = x.0; members = x.1 }

module _ (tokens : List Token) where
  abbrev pub IsField : Form FieldDecl
  IsField = Made field_of (Before (row_of tokens) semicolon (IsTyped tokens))

  abbrev pub IsEventDecl : Form EventDecl
  IsEventDecl = Placed tokens event_of (Then (Behind (row_of tokens) event_word (IsName tokens)) (Braced (row_of tokens) IsField))

  abbrev pub IsGlobal : Form GlobalDecl
  IsGlobal =
      Made global_of
      (Before (row_of tokens) semicolon (Then (IsTyped tokens) (Optional (Behind (row_of tokens) assigns (IsExpr tokens)))))

  -- `( [ param { , param } ] )`
  abbrev pub IsParams : Form (List Param)
  IsParams =
      Enclosed (row_of tokens) parenthesis closing_parenthesis (Separated (row_of tokens) comma (Made param_of (IsTyped tokens)))

  -- An action up to its block.
  abbrev pub IsSignature : Form ((Name × List Param) × Option TypeExpr)
  IsSignature =
      Then (Then (Behind (row_of tokens) action_word (IsName tokens)) IsParams)
      (Optional (Behind (row_of tokens) returns_word (IsType tokens)))

  abbrev pub IsAction : Form ActionDecl
  IsAction = Placed tokens action_of (Then IsSignature (Braced (row_of tokens) (IsStmt tokens)))

  abbrev pub IsMember : Form Member
  IsMember = Either (Made member.Global IsGlobal) (Made member.Action IsAction)

  abbrev pub IsMonitor : Form MonitorDecl
  IsMonitor =
      Placed tokens monitor_of (Then (Behind (row_of tokens) monitor_word (IsName tokens)) (Braced (row_of tokens) IsMember))

  abbrev pub IsDeclaration : Form Declaration
  IsDeclaration = Either (Made declaration.Event IsEventDecl) (Made declaration.Monitor IsMonitor)

  -- The end of the text stands there.
  abbrev pub IsEnd : ℕ → Type 0
  IsEnd at = kind_at tokens at ≡ End

  -- The declarations of a program file span all its tokens up to the end.
  unfoldable pub IsUnit : ProgramFile → Type 0
  IsUnit unit = (end : ℕ) × Many IsDeclaration unit.declarations 0 end × IsEnd end
