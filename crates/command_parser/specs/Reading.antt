-- Statements that hold no other, and their parts, read from left to right, each repetition as far as it goes.
use Rattle.std.specs.Prelude.{ℕ, List, length, Option}
use Rattle.grammar_forms.specs.Reader.{Reader, made, and_then, or_else, and_many, and_optional, such, item_of, behind, within}
use Rattle.epl_lexer.specs.declared.token.Token.{Token}
use Rattle.epl_tree.specs.declared.expression.Expr.{Expr}
use Rattle.epl_tree.specs.declared.expression.Suffix.{Suffix}
use Rattle.epl_tree.specs.declared.expression.SuffixNode.{SuffixNode}
use Rattle.epl_tree.specs.declared.expression.SuffixNode.TheVariants as step
use Rattle.epl_tree.specs.declared.name.Name.{Name}
use Rattle.epl_tree.specs.declared.statement.Level.{Level}
use Rattle.epl_tree.specs.declared.statement.Place.{Place}
use Rattle.epl_tree.specs.declared.statement.StmtNode.{StmtNode}
use Rattle.epl_tree.specs.declared.statement.StmtNode.TheVariants as s
use Rattle.epl_tree.specs.declared.types.TypeExpr.{TypeExpr}
use Rattle.primary_parser.specs.declared.part.Part.TheVariants as part
use Rattle.primary_parser.specs.Tokens.{row_of}
use Rattle.primary_parser.specs.Words.{brace, bracket, closing_bracket, point}
use Rattle.primary_parser.specs.Grammar.{suffix}
use Rattle.primary_parser.specs.Reader.{placed, name}
use Rattle.primary_parser.specs.Reading.{type_at, expr_at, arguments}
use Rattle.command_parser.specs.Words.{semicolon, at_word, break_word, continue_word, die_word, log_word, monitor_word, print_word, return_word, route_word, send_word, spawn_word, to_word}
use Rattle.command_parser.specs.Commands.{name_of, place_of, ends_with_call}
use Rattle.command_parser.specs.Reader.{before, unless, level_at}

module _ (tokens : List Token) where
  unfoldable pub expr : Reader Expr
  expr at = expr_at tokens 200 part.Whole at

  unfoldable pub name_read : Reader Name
  name_read at = placed tokens name_of at (name tokens at)

  unfoldable pub typed : Reader (TypeExpr × Name)
  typed at = and_then (type_at tokens 200 at) name_read

  unfoldable pub ended : Reader Expr
  ended at = before (row_of tokens) semicolon expr at

  unfoldable pub named_call : Reader (List ℕ × List Expr)
  named_call at = and_then (name tokens at) (arguments tokens (expr_at tokens 200))

  unfoldable pub step_node : Reader SuffixNode
  step_node at =
      or_else (made step.Field (behind (row_of tokens) point (name tokens) at))
      (made step.Index (within (row_of tokens) bracket closing_bracket expr at))

  unfoldable pub step_at : Reader Suffix
  step_at at = placed tokens suffix at (step_node at)

  unfoldable pub place : Reader Place
  place at = placed tokens place_of at (and_many (length tokens) (name tokens at) step_at)

  unfoldable pub word : List ℕ → StmtNode → Reader StmtNode
  word set node at = made (λ _. node) (before (row_of tokens) semicolon (item_of (row_of tokens) set) at)

  unfoldable pub returned : Reader (Unit {0} × Option Expr)
  returned at = and_optional (item_of (row_of tokens) return_word at) expr

  unfoldable pub return_stmt : Reader StmtNode
  return_stmt at = made (λ x. s.Return x.1) (before (row_of tokens) semicolon returned at)

  unfoldable pub logged : Reader Expr
  logged at = behind (row_of tokens) log_word expr at

  unfoldable pub leveled : Reader Level
  leveled at = behind (row_of tokens) at_word (level_at tokens) at

  unfoldable pub log : Reader StmtNode
  log at = made (λ x. s.Log x.0 x.1) (and_then (logged at) (before (row_of tokens) semicolon leveled))

  unfoldable pub sent : Reader Expr
  sent at = behind (row_of tokens) send_word expr at

  unfoldable pub target : Reader Expr
  target at = behind (row_of tokens) to_word ended at

  unfoldable pub send : Reader StmtNode
  send at = made (λ x. s.Send x.0 x.1) (and_then (sent at) target)

  unfoldable pub spawned : Reader (List ℕ × List Expr)
  spawned at = behind (row_of tokens) spawn_word named_call at

  unfoldable pub context : Reader Expr
  context at = behind (row_of tokens) to_word expr at

  unfoldable pub spawned_to : Reader ((List ℕ × List Expr) × Option Expr)
  spawned_to at = and_optional (spawned at) context

  unfoldable pub spawn : Reader StmtNode
  spawn at = made (λ x. s.Spawn x.0.0 x.0.1 x.1) (before (row_of tokens) semicolon spawned_to at)

  unfoldable pub monitor_tail : Reader (List ℕ × List Expr)
  monitor_tail at = behind (row_of tokens) point (before (row_of tokens) semicolon named_call) at

  unfoldable pub monitor_call : Reader StmtNode
  monitor_call at = made (λ x. s.Monitor x.0 x.1) (behind (row_of tokens) monitor_word monitor_tail at)

  unfoldable pub print : Reader Expr
  print at = behind (row_of tokens) print_word ended at

  unfoldable pub route : Reader Expr
  route at = behind (row_of tokens) route_word ended at

  unfoldable pub sending : Reader StmtNode
  sending at = or_else (made s.Route (route at)) (or_else (send at) (or_else (spawn at) (monitor_call at)))

  unfoldable pub writing : Reader StmtNode
  writing at = or_else (made s.Print (print at)) (or_else (log at) (sending at))

  unfoldable pub command : Reader StmtNode
  command at =
      or_else (word break_word s.Break at)
      (or_else (word continue_word s.Continue at)
      (or_else (return_stmt at) (or_else (word die_word s.Die at) (writing at))))

  unfoldable pub call_ended : Reader Expr
  call_ended at = before (row_of tokens) semicolon (expr_at tokens 201 part.Postfix) at

  unfoldable pub called : Reader Expr
  called at = such ends_with_call (call_ended at)

  unfoldable pub call : Reader StmtNode
  call at = made s.Call (unless (item_of (row_of tokens) brace at) (called at))
