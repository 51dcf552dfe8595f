-- Statements read from left to right, each repetition as far as it goes.
use Rattle.std.specs.Prelude.{ℕ, zero, suc, List, Option, Some, None}
use Rattle.grammar_forms.specs.Reader.{Reader, none, made, and_then, or_else, and_where, item_of, behind}
use Rattle.epl_lexer.specs.declared.token.Token.{Token}
use Rattle.epl_tree.specs.declared.event.EventExpr.{EventExpr}
use Rattle.epl_tree.specs.declared.expression.Expr.{Expr}
use Rattle.epl_tree.specs.declared.name.Name.{Name}
use Rattle.epl_tree.specs.declared.statement.Listening.{Listening}
use Rattle.epl_tree.specs.declared.statement.Stmt.{Stmt}
use Rattle.epl_tree.specs.declared.statement.StmtNode.{StmtNode}
use Rattle.epl_tree.specs.declared.statement.StmtNode.TheVariants as s
use Rattle.primary_parser.specs.Tokens.{row_of}
use Rattle.primary_parser.specs.Reader.{placed}
use Rattle.stmt_parser.specs.declared.assigned.Assigned.{Assigned}
use Rattle.stmt_parser.specs.declared.assigned.Assigned.TheVariants as right
use Rattle.command_parser.specs.Words.{semicolon, assigns, else_word, for_word, if_word, in_word, on_word, then_word, while_word}
use Rattle.stmt_parser.specs.Events.{event}
use Rattle.stmt_parser.specs.Statements.{stmt, listening_of, declared_of, assigned_of}
use Rattle.command_parser.specs.Reader.{braced}
use Rattle.command_parser.specs.Reading.{expr, name_read, typed, ended, place, command, call}

module _ (tokens : List Token) where
  unfoldable pub for_head : Reader (Name × Expr)
  for_head at = and_then (behind (row_of tokens) for_word (name_read tokens) at) (behind (row_of tokens) in_word (expr tokens))

  module _ (inner : Reader Stmt) where
    unfoldable pub block : Reader (List Stmt)
    block at = braced (row_of tokens) inner at

    unfoldable pub listened : Reader (EventExpr × Stmt)
    listened at = and_then (event tokens at) inner

    unfoldable pub on : Reader Listening
    on at = placed tokens listening_of at (behind (row_of tokens) on_word listened at)

    unfoldable pub assigned : Reader Assigned
    assigned at = or_else (made right.Value (ended tokens at)) (made right.Listener (on at))

    unfoldable pub given : Reader Assigned
    given at = behind (row_of tokens) assigns assigned at

    unfoldable pub initial : Reader (Option Assigned)
    initial at = or_else (made (λ _. None) (item_of (row_of tokens) semicolon at)) (made Some (given at))

    unfoldable pub declare : Reader StmtNode
    declare at = made declared_of (and_then (typed tokens at) initial)

    unfoldable pub assign : Reader StmtNode
    assign at = made assigned_of (and_then (place tokens at) given)

    unfoldable pub then_branch : Reader Stmt
    then_branch at = behind (row_of tokens) then_word inner at

    unfoldable pub block_stmt : Reader Stmt
    block_stmt at = placed tokens (λ spot x. stmt spot (s.Block x)) at (block at)

    unfoldable pub branch : Reader Stmt
    branch at = or_else (then_branch at) (block_stmt at)

    unfoldable pub else_branch : Reader Stmt
    else_branch at = behind (row_of tokens) else_word inner at

    unfoldable pub if_test : Reader Expr
    if_test at = behind (row_of tokens) if_word (expr tokens) at

    unfoldable pub head : Reader (Expr × Stmt)
    head at = and_then (if_test at) branch

    unfoldable pub choice : Reader StmtNode
    choice at = made (λ x. s.If x.0.0 x.0.1 x.1) (and_where (row_of tokens) else_word (head at) else_branch)

    unfoldable pub while_stmt : Reader StmtNode
    while_stmt at = made (λ x. s.While x.0 x.1) (and_then (behind (row_of tokens) while_word (expr tokens) at) block)

    unfoldable pub for_stmt : Reader StmtNode
    for_stmt at = made (λ x. s.For x.0.0 x.0.1 x.1) (and_then (for_head at) block)

    unfoldable pub plain : Reader StmtNode
    plain at = or_else (command tokens at) (or_else (declare at) (or_else (assign at) (call tokens at)))

    unfoldable pub nesting : Reader StmtNode
    nesting at = or_else (choice at) (or_else (while_stmt at) (or_else (for_stmt at) (plain at)))

    unfoldable pub stmt_node : Reader StmtNode
    stmt_node at = or_else (made s.Block (block at)) (or_else (made s.On (on at)) (nesting at))

    unfoldable pub stmt_over : Reader Stmt
    stmt_over at = placed tokens stmt at (stmt_node at)

  -- A statement that nests at most so deep.
  unfoldable pub stmt_at : ℕ → Reader Stmt
  stmt_at zero = none
  stmt_at (suc depth) = stmt_over (stmt_at depth)
