-- Declarations and the pieces of a program file read from left to right.
use Rattle.std.specs.Prelude.{ℕ, zero, suc, Bool, true, false, if◌then◌else◌, List, [], length, Option, Some, None}
use Rattle.grammar_forms.specs.Reader.{Reader, made, and_then, or_else, and_optional, item_of, behind, separated, many}
use Rattle.epl_lexer.specs.declared.token.Token.{Token}
use Rattle.epl_lexer.specs.declared.token.Kind.{Kind}
use Rattle.epl_lexer.specs.declared.token.Kind.TheVariants.{End}
use Rattle.epl_tree.specs.declared.expression.Expr.{Expr}
use Rattle.epl_tree.specs.declared.name.Name.{Name}
use Rattle.epl_tree.specs.declared.statement.Stmt.{Stmt}
use Rattle.epl_tree.specs.declared.types.TypeExpr.{TypeExpr}
use Rattle.epl_tree.specs.declared.unit.ActionDecl.{ActionDecl}
use Rattle.epl_tree.specs.declared.unit.Declaration.{Declaration}
use Rattle.epl_tree.specs.declared.unit.Declaration.TheVariants as declaration
use Rattle.epl_tree.specs.declared.unit.EventDecl.{EventDecl}
use Rattle.epl_tree.specs.declared.unit.FieldDecl.{FieldDecl}
use Rattle.epl_tree.specs.declared.unit.GlobalDecl.{GlobalDecl}
use Rattle.epl_tree.specs.declared.unit.Member.{Member}
use Rattle.epl_tree.specs.declared.unit.Member.TheVariants as member
use Rattle.epl_tree.specs.declared.unit.MonitorDecl.{MonitorDecl}
use Rattle.epl_tree.specs.declared.unit.Param.{Param}
use Rattle.epl_tree.specs.declared.unit.Unit.{Unit as ProgramFile}
use Rattle.primary_parser.specs.Tokens.{row_of, kind_at}
use Rattle.primary_parser.specs.Words.{brace, closing_brace, parenthesis, closing_parenthesis, comma}
use Rattle.primary_parser.specs.Reader.{placed, enclosed}
use Rattle.primary_parser.specs.Reading.{type_at}
use Rattle.decl_parser.specs.declared.region.Region.{Region}
use Rattle.decl_parser.specs.declared.region.Region.TheVariants as region
use Rattle.command_parser.specs.Words.{semicolon, assigns, action_word, else_word, event_word, monitor_word, returns_word}
use Rattle.decl_parser.specs.Units.{field_of, param_of, global_of, action_of, event_of, monitor_of}
use Rattle.command_parser.specs.Reader.{before, braced, unfollowed}
use Rattle.command_parser.specs.Reading.{expr, name_read, typed}
use Rattle.stmt_parser.specs.Reading.{stmt_at}

-- A turn of the cut: it ends where no piece begins.
abbrev pub onward : Option (Region × ℕ) → Region × ℕ → (Region → ℕ → Region × ℕ) → Region × ℕ
onward None here go = here
onward (Some x) here go = go x.0 x.1

-- Whether a kind is that of the end.
abbrev pub is_end_kind : Kind → Bool
is_end_kind End = true
is_end_kind _ = false

module _ (tokens : List Token) where
  unfoldable pub field : Reader FieldDecl
  field at = made field_of (before (row_of tokens) semicolon (typed tokens) at)

  unfoldable pub event_name : Reader Name
  event_name at = behind (row_of tokens) event_word (name_read tokens) at

  unfoldable pub fields : Reader (List FieldDecl)
  fields at = braced (row_of tokens) field at

  unfoldable pub event_decl : Reader EventDecl
  event_decl at = placed tokens event_of at (and_then (event_name at) fields)

  unfoldable pub initial_value : Reader Expr
  initial_value at = behind (row_of tokens) assigns (expr tokens) at

  unfoldable pub initialised : Reader ((TypeExpr × Name) × Option Expr)
  initialised at = and_optional (typed tokens at) initial_value

  unfoldable pub global : Reader GlobalDecl
  global at = made global_of (before (row_of tokens) semicolon initialised at)

  unfoldable pub param : Reader Param
  param at = made param_of (typed tokens at)

  unfoldable pub param_list : Reader (List Param)
  param_list at = separated (row_of tokens) comma param at

  unfoldable pub params : Reader (List Param)
  params at = enclosed (row_of tokens) parenthesis closing_parenthesis param_list at

  unfoldable pub action_name : Reader Name
  action_name at = behind (row_of tokens) action_word (name_read tokens) at

  unfoldable pub named_params : Reader (Name × List Param)
  named_params at = and_then (action_name at) params

  unfoldable pub result_type : Reader TypeExpr
  result_type at = behind (row_of tokens) returns_word (type_at tokens 200) at

  unfoldable pub signature : Reader ((Name × List Param) × Option TypeExpr)
  signature at = and_optional (named_params at) result_type

  unfoldable pub body : Reader (List Stmt)
  body at = braced (row_of tokens) (stmt_at tokens 200) at

  unfoldable pub action : Reader ActionDecl
  action at = placed tokens action_of at (and_then (signature at) body)

  unfoldable pub member_at : Reader Member
  member_at at = or_else (made member.Global (global at)) (made member.Action (action at))

  unfoldable pub monitor_name : Reader Name
  monitor_name at = behind (row_of tokens) monitor_word (name_read tokens) at

  unfoldable pub members : Reader (List Member)
  members at = braced (row_of tokens) member_at at

  unfoldable pub monitor : Reader MonitorDecl
  monitor at = placed tokens monitor_of at (and_then (monitor_name at) members)

  unfoldable pub declaration_at : Reader Declaration
  declaration_at at = or_else (made declaration.Event (event_decl at)) (made declaration.Monitor (monitor at))

  -- Whether the end of the text stands there.
  abbrev pub is_end : ℕ → Bool
  is_end at = is_end_kind (kind_at tokens at)

  -- The program file, where its declarations go up to the end.
  unfoldable pub unit_read : Option ProgramFile
  unit_read =
      let all = many declaration_at (length tokens) 0 [] in
      if is_end all.1 then Some record { declarations = all.0 } else None

  -- ---- pieces

  unfoldable pub monitor_head : Reader (Name × Unit {0})
  monitor_head at = and_then (monitor_name at) (item_of (row_of tokens) brace)

  unfoldable pub action_head : Reader (((Name × List Param) × Option TypeExpr) × Unit {0})
  action_head at = and_then (signature at) (item_of (row_of tokens) brace)

  unfoldable pub whole_stmt : Reader Stmt
  whole_stmt at = unfollowed (item_of (row_of tokens) else_word) (stmt_at tokens 200 at)

  unfoldable pub piece_outside : Reader Region
  piece_outside at =
      or_else (made (λ _. region.Outside) (event_decl at)) (made (λ _. region.Monitor) (monitor_head at))

  unfoldable pub piece_in_monitor : Reader Region
  piece_in_monitor at =
      or_else (made (λ _. region.Monitor) (global at))
      (or_else (made (λ _. region.Action) (action_head at))
      (made (λ _. region.Outside) (item_of (row_of tokens) closing_brace at)))

  unfoldable pub piece_in_action : Reader Region
  piece_in_action at =
      or_else (made (λ _. region.Action) (whole_stmt at))
      (made (λ _. region.Monitor) (item_of (row_of tokens) closing_brace at))

  -- The piece that begins at a place in a region: the region behind it, and the place.
  abbrev pub piece : Region → Reader Region
  piece region.Outside = piece_outside
  piece region.Monitor = piece_in_monitor
  piece region.Action = piece_in_action

  -- How far the cut comes from a place in a region, in at most so many turns.
  unfoldable pub cut : ℕ → Region → ℕ → Region × ℕ
  cut zero here at = (here, at)
  cut (suc turns) here at = onward (piece here at) (here, at) (cut turns)
