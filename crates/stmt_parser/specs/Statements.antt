-- Statements as they are written:
--   block = "{" { stmt } "}" .
--   stmt  = block | on
--         | type NAME ";" | type NAME ":=" expr ";" | type NAME ":=" on
--         | place ":=" expr ";" | place ":=" on
--         | "if" expr ( "then" stmt | block ) [ "else" stmt ]
--         | "while" expr block | "for" NAME "in" expr block
--         | "break" ";" | "continue" ";" | "return" [ expr ] ";" | "die" ";"
--         | "print" expr ";" | "log" expr "at" level ";"
--         | "route" expr ";" | "send" expr "to" expr ";"
--         | "spawn" NAME "(" [ args ] ")" [ "to" expr ] ";"
--         | "monitor" "." NAME "(" [ args ] ")" ";"
--         | postfix ";" .
--   on    = "on" eventexpr stmt .
--   level = "CRIT" | "FATAL" | "ERROR" | "WARN" | "INFO" | "DEBUG" | "TRACE" .
--   place = NAME { "." NAME | "[" expr "]" } .
-- An `else` belongs to the nearest `if`: behind an `if` that has none stands no `else`. A postfix that is a statement
-- ends with a call, and doesn't begin with `{`. A token lies in at most 200 statements.
use Rattle.std.specs.Prelude.{ℕ, zero, suc, List, Option, Some, None}
use Rattle.grammar_forms.specs.Rule.{Form, Nothing, Made, Then, Either, Where, IsOf, Behind}
use Rattle.epl_lexer.specs.declared.token.Token.{Token}
use Rattle.epl_tree.specs.declared.event.EventExpr.{EventExpr}
use Rattle.epl_tree.specs.declared.name.Name.{Name}
use Rattle.epl_tree.specs.declared.statement.Listening.{Listening, roll-Listening}
use Rattle.epl_tree.specs.declared.statement.Place.{Place}
use Rattle.epl_tree.specs.declared.statement.Stmt.{Stmt, roll-Stmt}
use Rattle.epl_tree.specs.declared.statement.StmtNode.{StmtNode}
use Rattle.epl_tree.specs.declared.statement.StmtNode.TheVariants as s
use Rattle.epl_tree.specs.declared.types.TypeExpr.{TypeExpr}
use Rattle.span_text.specs.declared.spot.Spot.{Spot}
use Rattle.primary_parser.specs.Tokens.{row_of}
use Rattle.primary_parser.specs.Rules.{Placed}
use Rattle.primary_parser.specs.Grammar.{IsExpr}
use Rattle.event_parser.specs.Grammar.{IsEvent}
use Rattle.stmt_parser.specs.declared.assigned.Assigned.{Assigned}
use Rattle.stmt_parser.specs.declared.assigned.Assigned.TheVariants as assigned
use Rattle.command_parser.specs.Words.{semicolon, assigns, else_word, for_word, if_word, in_word, on_word, then_word, while_word}
use Rattle.command_parser.specs.Rules.{Braced}
use Rattle.command_parser.specs.Commands.{IsName, IsTyped, IsEnded, IsPlace, IsCommand, IsCall}

-- A statement with its spot.
abbrev pub stmt : Spot → StmtNode → Stmt
stmt spot node = roll-Stmt record { spot = spot; node = node }

-- A listener: its event expression and its callback.
abbrev pub listening_of : Spot → EventExpr × Stmt → Listening
listening_of spot x = roll-Listening record { spot = spot; event = x.0; callback = x.1 }

-- A local, with what it is given if it is given anything.
abbrev pub declared_of : (TypeExpr × Name) × Option Assigned → StmtNode
declared_of (x, None) = s.Declare x.0 x.1
declared_of (x, Some (assigned.Value e)) = s.DeclareAs x.0 x.1 e
declared_of (x, Some (assigned.Listener l)) = s.DeclareOn x.0 x.1 l

-- A place and what it is given.
abbrev pub assigned_of : Place × Assigned → StmtNode
assigned_of (place, assigned.Value e) = s.Assign place e
assigned_of (place, assigned.Listener l) = s.AssignOn place l

module _ (tokens : List Token) where
  -- Inner is the form of the statements that lie in a statement.
  module _ (Inner : Form Stmt) where
    abbrev pub IsBlock : Form (List Stmt)
    IsBlock = Braced (row_of tokens) Inner

    abbrev pub IsOn : Form Listening
    IsOn = Placed tokens listening_of (Behind (row_of tokens) on_word (Then (IsEvent tokens) Inner))

    -- `expr ;` or `on`
    abbrev pub IsAssigned : Form Assigned
    IsAssigned = Either (Made assigned.Value (IsEnded tokens)) (Made assigned.Listener IsOn)

    abbrev pub IsDeclare : Form StmtNode
    IsDeclare =
        Made declared_of
        (Then (IsTyped tokens)
        (Either (Made (λ _. None) (IsOf (row_of tokens) semicolon)) (Made Some (Behind (row_of tokens) assigns IsAssigned))))

    abbrev pub IsAssign : Form StmtNode
    IsAssign = Made assigned_of (Then (IsPlace tokens) (Behind (row_of tokens) assigns IsAssigned))

    -- `then stmt`, or a block as a statement of its own.
    abbrev pub IsBranch : Form Stmt
    IsBranch =
        Either (Behind (row_of tokens) then_word Inner) (Placed tokens (λ spot x. stmt spot (s.Block x)) IsBlock)

    abbrev pub IsIf : Form StmtNode
    IsIf =
        Made (λ x. s.If x.0.0 x.0.1 x.1)
        (Then (Then (Behind (row_of tokens) if_word (IsExpr tokens)) IsBranch)
        (Where (row_of tokens) else_word (Behind (row_of tokens) else_word Inner)))

    abbrev pub IsWhile : Form StmtNode
    IsWhile = Made (λ x. s.While x.0 x.1) (Then (Behind (row_of tokens) while_word (IsExpr tokens)) IsBlock)

    abbrev pub IsFor : Form StmtNode
    IsFor =
        Made (λ x. s.For x.0.0 x.0.1 x.1)
        (Then
        (Then (Behind (row_of tokens) for_word (IsName tokens)) (Behind (row_of tokens) in_word (IsExpr tokens)))
        IsBlock)

    abbrev pub IsStmtOver : Form Stmt
    IsStmtOver =
        Placed tokens stmt
        (Either (Made s.Block IsBlock)
        (Either (Made s.On IsOn)
        (Either IsIf (Either IsWhile (Either IsFor (Either (IsCommand tokens) (Either IsDeclare (Either IsAssign (IsCall tokens)))))))))

  -- Statements that nest at most so deep.
  unfoldable pub IsStmtAt : ℕ → Form Stmt
  IsStmtAt zero = Nothing
  IsStmtAt (suc depth) = IsStmtOver (IsStmtAt depth)

-- A statement of an outermost block.
unfoldable pub IsStmt : List Token → Form Stmt
IsStmt tokens = IsStmtAt tokens 200
