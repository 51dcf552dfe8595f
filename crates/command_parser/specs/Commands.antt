-- Statements that begin with a keyword of their own and hold no other, as they are written:
--   command = "break" ";" | "continue" ";" | "return" [ expr ] ";" | "die" ";"
--           | "print" expr ";" | "log" expr "at" level ";"
--           | "route" expr ";" | "send" expr "to" expr ";"
--           | "spawn" NAME "(" [ args ] ")" [ "to" expr ] ";"
--           | "monitor" "." NAME "(" [ args ] ")" ";" .
--   level   = "CRIT" | "FATAL" | "ERROR" | "WARN" | "INFO" | "DEBUG" | "TRACE" .
--   place   = NAME { "." NAME | "[" expr "]" } .
-- Beside them calls that are statements, and what statements and declarations are made of.
use Rattle.std.specs.Prelude.{ℕ, ◌-◌, Bool, true, false, List, length, Option, Some, None, slice_get}
use Rattle.grammar_forms.specs.Rule.{Form, Made, Then, Many, Either, Optional, Such, IsOf, Behind, Within}
use Rattle.epl_lexer.specs.declared.token.Token.{Token}
use Rattle.epl_lexer.specs.declared.token.Kind.TheVariants as kind
use Rattle.epl_tree.specs.declared.expression.Expr.{Expr, out-Expr}
use Rattle.epl_tree.specs.declared.expression.ExprNode.{ExprNode, out-ExprNode}
use Rattle.epl_tree.specs.declared.expression.ExprNode.TheOpen.{ExprNode-F, SuffixNode-F}
use Rattle.epl_tree.specs.declared.expression.Entry.{Entry}
use Rattle.epl_tree.specs.declared.expression.Link.{Link}
use Rattle.epl_tree.specs.declared.expression.Suffix.{Suffix, out-Suffix}
use Rattle.epl_tree.specs.declared.expression.SuffixNode.{SuffixNode, out-SuffixNode}
use Rattle.epl_tree.specs.declared.expression.SuffixNode.TheVariants as step
use Rattle.epl_tree.specs.declared.name.Name.{Name}
use Rattle.epl_tree.specs.declared.statement.Level.{Level}
use Rattle.epl_tree.specs.declared.statement.Level.TheVariants as level
use Rattle.epl_tree.specs.declared.statement.Place.{Place}
use Rattle.epl_tree.specs.declared.statement.StmtNode.{StmtNode}
use Rattle.epl_tree.specs.declared.statement.StmtNode.TheVariants as s
use Rattle.epl_tree.specs.declared.types.TypeExpr.{TypeExpr}
use Rattle.span_text.specs.declared.spot.Spot.{Spot}
use Rattle.primary_parser.specs.Tokens.{row_of, Takes}
use Rattle.primary_parser.specs.Rules.{Placed}
use Rattle.primary_parser.specs.Words.{brace, bracket, closing_bracket, point}
use Rattle.primary_parser.specs.Types.{IsType}
use Rattle.primary_parser.specs.Grammar.{suffix, IsArguments, IsExpr, IsExprAt, IsPostfixAlone}
use Rattle.command_parser.specs.Words.{semicolon, at_word, break_word, continue_word, die_word, log_word, monitor_word, print_word, return_word, route_word, send_word, spawn_word, to_word, crit_letters, fatal_letters, error_letters, warn_letters, info_letters, debug_letters, trace_letters}
use Rattle.command_parser.specs.Rules.{Before, Unless}

-- A name with its spot.
abbrev pub name_of : Spot → List ℕ → Name
name_of spot text = record { spot = spot; text = text }

-- A variable, and the fields and indices behind it.
abbrev pub place_of : Spot → List ℕ × List Suffix → Place
place_of spot x = record { spot = spot; name = x.0; steps = x.1 }

-- The letters of a level.
abbrev pub letters_of : Level → List ℕ
letters_of level.Crit = crit_letters
letters_of level.Fatal = fatal_letters
letters_of level.Error = error_letters
letters_of level.Warn = warn_letters
letters_of level.Info = info_letters
letters_of level.Debug = debug_letters
letters_of level.Trace = trace_letters

-- Whether something behind a primary is a method with its arguments.
abbrev pub is_method : SuffixNode-F ExprNode SuffixNode Entry Expr Link Suffix → Bool
is_method (SuffixNode-F.Method name args) = true
is_method _ = false

-- Whether the last of the things behind a primary is a method with its arguments.
abbrev pub is_method_at : Option Suffix → Bool
is_method_at None = false
is_method_at (Some x) = is_method (out-SuffixNode (out-Suffix x).node)

abbrev pub last_is_method : List Suffix → Bool
last_is_method suffixes = is_method_at (slice_get suffixes (length suffixes - 1))

-- Whether an expression is a call, or a postfix that ends with one.
abbrev pub is_call : ExprNode-F ExprNode SuffixNode Entry Expr Link Suffix → Bool
is_call (ExprNode-F.Call name args) = true
is_call (ExprNode-F.Context args) = true
is_call ExprNode-F.ContextCurrent = true
is_call (ExprNode-F.Postfix first suffixes) = last_is_method suffixes
is_call _ = false

unfoldable pub ends_with_call : Expr → Bool
ends_with_call e = is_call (out-ExprNode (out-Expr e).node)

module _ (tokens : List Token) where
  abbrev pub IsName : Form Name
  IsName = Placed tokens name_of (Takes tokens kind.Name)

  -- `type NAME`
  abbrev pub IsTyped : Form (TypeExpr × Name)
  IsTyped = Then (IsType tokens) IsName

  -- `expr ;`
  abbrev pub IsEnded : Form Expr
  IsEnded = Before (row_of tokens) semicolon (IsExpr tokens)

  -- `NAME ( [ args ] )`
  abbrev pub IsNamedCall : Form (List ℕ × List Expr)
  IsNamedCall = Then (Takes tokens kind.Name) (IsArguments tokens (IsExprAt tokens 200))

  -- `. NAME` or `[ expr ]`
  abbrev pub IsStep : Form Suffix
  IsStep =
      Placed tokens suffix
      (Either (Made step.Field (Behind (row_of tokens) point (Takes tokens kind.Name)))
      (Made step.Index (Within (row_of tokens) bracket closing_bracket (IsExpr tokens))))

  abbrev pub IsPlace : Form Place
  IsPlace = Placed tokens place_of (Then (Takes tokens kind.Name) (Many IsStep))

  -- The name of a level.
  abbrev pub IsLevel : Form Level
  IsLevel level at end = Takes tokens kind.Name (letters_of level) at end

  -- A statement that is one keyword.
  abbrev pub IsWord : List ℕ → StmtNode → Form StmtNode
  IsWord word node = Made (λ _. node) (Before (row_of tokens) semicolon (IsOf (row_of tokens) word))

  abbrev pub IsReturn : Form StmtNode
  IsReturn =
      Made (λ x. s.Return x.1)
      (Before (row_of tokens) semicolon (Then (IsOf (row_of tokens) return_word) (Optional (IsExpr tokens))))

  abbrev pub IsLog : Form StmtNode
  IsLog =
      Made (λ x. s.Log x.0 x.1)
      (Then (Behind (row_of tokens) log_word (IsExpr tokens))
      (Before (row_of tokens) semicolon (Behind (row_of tokens) at_word IsLevel)))

  abbrev pub IsSend : Form StmtNode
  IsSend =
      Made (λ x. s.Send x.0 x.1)
      (Then (Behind (row_of tokens) send_word (IsExpr tokens)) (Behind (row_of tokens) to_word IsEnded))

  abbrev pub IsSpawn : Form StmtNode
  IsSpawn =
      Made (λ x. s.Spawn x.0.0 x.0.1 x.1)
      (Before (row_of tokens) semicolon
      (Then (Behind (row_of tokens) spawn_word IsNamedCall) (Optional (Behind (row_of tokens) to_word (IsExpr tokens)))))

  abbrev pub IsMonitorCall : Form StmtNode
  IsMonitorCall =
      Made (λ x. s.Monitor x.0 x.1)
      (Behind (row_of tokens) monitor_word
      (Behind (row_of tokens) point (Before (row_of tokens) semicolon IsNamedCall)))

  -- A statement that begins with a keyword of its own and holds no other.
  abbrev pub IsCommand : Form StmtNode
  IsCommand =
      Either (IsWord break_word s.Break)
      (Either (IsWord continue_word s.Continue)
      (Either IsReturn
      (Either (IsWord die_word s.Die)
      (Either (Made s.Print (Behind (row_of tokens) print_word IsEnded))
      (Either IsLog
      (Either (Made s.Route (Behind (row_of tokens) route_word IsEnded))
      (Either IsSend (Either IsSpawn IsMonitorCall))))))))

  abbrev pub IsCall : Form StmtNode
  IsCall =
      Made s.Call
      (Unless (row_of tokens) brace (Such ends_with_call (Before (row_of tokens) semicolon (IsPostfixAlone tokens))))
