-- Each rule of statements is read just as the grammar says.
use Rattle.std.proofs.Common.{◌≡◌, ℕ, zero, suc, true, false, List, [], ◌∷◌, ◌++◌, Some, None, refl}
use Rattle.grammar_forms.specs.Rule.{contains, Behind}
use Rattle.grammar_forms.specs.Reader.{Reader}
use Rattle.grammar_forms.specs.Good.{Good}
use Rattle.grammar_forms.proofs.Good.{good_none, good_made, good_then, good_either, good_in}
use Rattle.grammar_forms.proofs.First.{good_first}
use Rattle.grammar_forms.proofs.Many.{good_and_many}
use Rattle.grammar_forms.proofs.Optional.{good_and_optional}
use Rattle.grammar_forms.proofs.Where.{good_and_where, good_such}
use Rattle.grammar_forms.proofs.Joined.{good_behind}
use Rattle.epl_lexer.specs.declared.token.Token.{Token}
use Rattle.epl_tree.specs.declared.expression.Expr.{Expr}
use Rattle.epl_tree.specs.declared.statement.Stmt.{Stmt}
use Rattle.epl_tree.specs.declared.statement.StmtNode.{StmtNode}
use Rattle.epl_tree.specs.declared.statement.StmtNode.TheVariants as s
use Rattle.primary_parser.specs.Tokens.{row_of, names, integers, strings}
use Rattle.primary_parser.specs.Words.{brace, parenthesis, bracket, point, context_word, false_word, new_word, true_word}
use Rattle.primary_parser.specs.Grammar.{IsPostfixAlone}
use Rattle.expr_parser.proofs.Items.{inside, good_name, good_word, good_placed}
use Rattle.expr_parser.proofs.Laws.{starts, whole_ext, primary_starts, good_expr, good_arguments, good_postfix_alone}
use Rattle.expr_parser.proofs.TypeLaws.{type_starts, good_type_alone}
use Rattle.event_parser.specs.Grammar.{IsEvent}
use Rattle.event_parser.proofs.Laws as events
use Rattle.event_parser.proofs.Laws.{good_event_alone}
use Rattle.stmt_parser.specs.declared.assigned.Assigned.TheVariants as right
use Rattle.command_parser.specs.Words.{semicolon, assigns, at_word, break_word, continue_word, die_word, else_word, for_word, if_word, in_word, log_word, monitor_word, on_word, print_word, return_word, route_word, send_word, spawn_word, then_word, to_word, while_word}
use Rattle.stmt_parser.specs.Events.{event}
use Rattle.command_parser.specs.Commands as form
use Rattle.stmt_parser.specs.Statements as tree
use Rattle.command_parser.specs.Commands.{IsName, IsTyped, IsEnded, IsNamedCall, IsPlace, IsWord, IsReturn, IsLog, IsSend, IsSpawn, IsMonitorCall, IsCommand, IsCall}
use Rattle.stmt_parser.specs.Statements.{IsBlock, IsOn, IsAssigned, IsDeclare, IsAssign, IsBranch, IsIf, IsWhile, IsFor, IsStmtOver, IsStmtAt, IsStmt}
use Rattle.command_parser.specs.Reading.{expr, name_read, typed, ended, named_call, step_at, place, word, returned, return_stmt, logged, leveled, log, sent, target, send, spawned, context, spawned_to, spawn, monitor_tail, monitor_call, print, route, sending, writing, command, call_ended, called, call}
use Rattle.stmt_parser.specs.Reading.{block, listened, on, assigned, given, initial, declare, assign, then_branch, block_stmt, branch, else_branch, if_test, head, choice, while_stmt, for_head, for_stmt, plain, nesting, stmt_node, stmt_over, stmt_at}
use Rattle.stmt_parser.proofs.Items.{good_before, good_braced, good_unless, good_level}
use Rattle.stmt_parser.proofs.Overlaps.{good_expr_read, good_step, no_both, no_declared}

-- what may begin a call: what may begin a postfix, without `{`
abbrev pub call_starts : List ℕ
call_starts = integers ++ (strings ++ (true_word ++ (false_word ++ (names ++ (bracket ++ (new_word ++ (context_word ++ parenthesis)))))))

-- what may begin a command, and a statement
abbrev pub command_starts : List ℕ
command_starts = break_word ++ (continue_word ++ (return_word ++ (die_word ++ (print_word ++ (log_word ++ (route_word ++ (send_word ++ (spawn_word ++ monitor_word))))))))

abbrev pub stmt_starts : List ℕ
stmt_starts = brace ++ (on_word ++ (if_word ++ (while_word ++ (for_word ++ (command_starts ++ (type_starts ++ call_starts))))))

module _ (tokens : List Token) where
  good_event_read : Good (row_of tokens) (IsEvent tokens) (event tokens) events.starts events.whole_ext
  unfolding event
  good_event_read = good_event_alone tokens

  pub good_name_read : Good (row_of tokens) (IsName tokens) (name_read tokens) names []
  unfolding name_read
  good_name_read = good_placed tokens form.name_of (good_name tokens)

  pub good_typed : Good (row_of tokens) (IsTyped tokens) (typed tokens) type_starts []
  unfolding typed
  good_typed = good_then (good_type_alone tokens) good_name_read refl

  good_ended : Good (row_of tokens) (IsEnded tokens) (ended tokens) starts []
  unfolding ended
  good_ended = good_before tokens semicolon refl (good_expr_read tokens) refl

  good_named_call : Good (row_of tokens) (IsNamedCall tokens) (named_call tokens) names []
  unfolding named_call
  good_named_call = good_then (good_name tokens) (good_arguments tokens (good_expr tokens 200)) refl

  good_place : Good (row_of tokens) (IsPlace tokens) (place tokens) names (point ++ bracket)
  unfolding place
  good_place = good_in names (point ++ bracket) (good_placed tokens form.place_of (good_and_many (good_name tokens) (good_step tokens) refl refl)) refl refl

  -- ---- commands

  good_word_stmt : (set : List ℕ) (node : StmtNode) → contains 14 set ≡ false → Good (row_of tokens) (IsWord tokens set node) (word tokens set node) set []
  unfolding word
  good_word_stmt set node a = good_made (λ _. node) (good_before tokens semicolon refl (good_word tokens set a) refl)

  good_return : Good (row_of tokens) (IsReturn tokens) (return_stmt tokens) return_word []
  unfolding return_stmt returned
  good_return =
      good_made (λ x. s.Return x.1)
      (good_before tokens semicolon refl (good_and_optional (good_word tokens return_word refl) (good_expr_read tokens) refl) refl)

  good_log : Good (row_of tokens) (IsLog tokens) (log tokens) log_word []
  unfolding log logged leveled
  good_log =
      good_made (λ x. s.Log x.0 x.1)
      (good_then (good_behind (good_expr_read tokens) log_word (inside tokens log_word refl) refl)
      (good_before tokens semicolon refl (good_behind (good_level tokens) at_word (inside tokens at_word refl) refl) refl) refl)

  good_send : Good (row_of tokens) (IsSend tokens) (send tokens) send_word []
  unfolding send sent target
  good_send =
      good_made (λ x. s.Send x.0 x.1)
      (good_then (good_behind (good_expr_read tokens) send_word (inside tokens send_word refl) refl)
      (good_behind good_ended to_word (inside tokens to_word refl) refl) refl)

  good_spawn : Good (row_of tokens) (IsSpawn tokens) (spawn tokens) spawn_word []
  unfolding spawn spawned spawned_to context
  good_spawn =
      good_made (λ x. s.Spawn x.0.0 x.0.1 x.1)
      (good_before tokens semicolon refl
      (good_and_optional (good_behind good_named_call spawn_word (inside tokens spawn_word refl) refl)
      (good_behind (good_expr_read tokens) to_word (inside tokens to_word refl) refl) refl) refl)

  good_monitor_call : Good (row_of tokens) (IsMonitorCall tokens) (monitor_call tokens) monitor_word []
  unfolding monitor_call monitor_tail
  good_monitor_call =
      good_made (λ x. s.Monitor x.0 x.1)
      (good_behind
      (good_behind (good_before tokens semicolon refl good_named_call refl) point (inside tokens point refl) refl)
      monitor_word (inside tokens monitor_word refl) refl)

  good_command : Good (row_of tokens) (IsCommand tokens) (command tokens) command_starts []
  unfolding command writing sending print route
  good_command =
      good_either (good_word_stmt break_word s.Break refl)
      (good_either (good_word_stmt continue_word s.Continue refl)
      (good_either good_return
      (good_either (good_word_stmt die_word s.Die refl)
      (good_either (good_made s.Print (good_behind good_ended print_word (inside tokens print_word refl) refl))
      (good_either good_log
      (good_either (good_made s.Route (good_behind good_ended route_word (inside tokens route_word refl) refl))
      (good_either good_send (good_either good_spawn good_monitor_call refl) refl) refl) refl) refl) refl) refl) refl) refl

  good_call : Good (row_of tokens) (IsCall tokens) (call tokens) call_starts []
  unfolding call called call_ended IsPostfixAlone
  good_call =
      good_made s.Call
      (good_unless brace call_starts
      (good_in (brace ++ call_starts) []
      (good_such form.ends_with_call (good_before tokens semicolon refl (good_postfix_alone tokens) refl)) refl refl))

  -- ---- statements over those that lie in them

  module _ {P : Stmt → ℕ → ℕ → Type 0} {p : Reader Stmt} (inner : Good (row_of tokens) P p stmt_starts []) where
    good_block : Good (row_of tokens) (IsBlock tokens P) (block tokens p) brace []
    unfolding block
    good_block = good_braced tokens inner refl refl refl

    good_on : Good (row_of tokens) (IsOn tokens P) (on tokens p) on_word []
    unfolding on listened
    good_on =
        good_placed tokens tree.listening_of
        (good_behind (good_then good_event_read inner refl) on_word (inside tokens on_word refl) refl)

    good_assigned : Good (row_of tokens) (IsAssigned tokens P) (assigned tokens p) (starts ++ on_word) []
    unfolding assigned
    good_assigned = good_either (good_made right.Value good_ended) (good_made right.Listener good_on) refl

    good_given : Good (row_of tokens) (Behind (row_of tokens) assigns (IsAssigned tokens P)) (given tokens p) assigns []
    unfolding given
    good_given = good_behind good_assigned assigns (inside tokens assigns refl) refl

    good_declare : Good (row_of tokens) (IsDeclare tokens P) (declare tokens p) type_starts []
    unfolding declare initial
    good_declare =
        good_made tree.declared_of
        (good_then good_typed (good_either (good_made (λ _. None) (good_word tokens semicolon refl)) (good_made Some good_given) refl) refl)

    good_assign : Good (row_of tokens) (IsAssign tokens P) (assign tokens p) names []
    unfolding assign
    good_assign = good_made tree.assigned_of (good_then good_place good_given refl)

    good_branch : Good (row_of tokens) (IsBranch tokens P) (branch tokens p) (then_word ++ brace) []
    unfolding branch then_branch block_stmt
    good_branch =
        good_either (good_behind inner then_word (inside tokens then_word refl) refl)
        (good_placed tokens (λ spot x. tree.stmt spot (s.Block x)) good_block) refl

    good_choice : Good (row_of tokens) (IsIf tokens P) (choice tokens p) if_word []
    unfolding choice head if_test else_branch
    good_choice =
        good_made (λ x. s.If x.0.0 x.0.1 x.1)
        (good_and_where else_word
        (good_then (good_behind (good_expr_read tokens) if_word (inside tokens if_word refl) refl) good_branch refl)
        (good_behind inner else_word (inside tokens else_word refl) refl))

    good_while : Good (row_of tokens) (IsWhile tokens P) (while_stmt tokens p) while_word []
    unfolding while_stmt
    good_while =
        good_made (λ x. s.While x.0 x.1)
        (good_then (good_behind (good_expr_read tokens) while_word (inside tokens while_word refl) refl) good_block refl)

    good_for : Good (row_of tokens) (IsFor tokens P) (for_stmt tokens p) for_word []
    unfolding for_stmt for_head
    good_for =
        good_made (λ x. s.For x.0.0 x.0.1 x.1)
        (good_then
        (good_then (good_behind good_name_read for_word (inside tokens for_word refl) refl)
        (good_behind (good_expr_read tokens) in_word (inside tokens in_word refl) refl) refl)
        good_block refl)

    good_stmt_over : Good (row_of tokens) (IsStmtOver tokens P) (stmt_over tokens p) stmt_starts []
    unfolding stmt_over stmt_node nesting plain
    good_stmt_over =
        good_in stmt_starts []
        (good_placed tokens tree.stmt
        (good_either (good_made s.Block good_block)
        (good_either (good_made s.On good_on)
        (good_either good_choice
        (good_either good_while
        (good_either good_for
        (good_either good_command
        (good_first good_declare
        (good_first good_assign good_call [] (λ a b at p i h k. absurd (no_both tokens P a b at p i h k))) []
        (λ a b at p i h k. absurd (no_declared tokens P a b at p i h k))) refl) refl) refl) refl) refl) refl))
        refl refl

  -- statements at each depth
  pub good_stmt : (depth : ℕ) → Good (row_of tokens) (IsStmtAt tokens depth) (stmt_at tokens depth) stmt_starts []
  unfolding stmt_at IsStmtAt
  good_stmt zero = good_none (row_of tokens) stmt_starts []
  good_stmt (suc depth) = good_stmt_over (good_stmt depth)

  -- a statement of an outermost block
  pub good_stmt_alone : Good (row_of tokens) (IsStmt tokens) (stmt_at tokens 200) stmt_starts []
  unfolding IsStmt
  good_stmt_alone = good_stmt 200
