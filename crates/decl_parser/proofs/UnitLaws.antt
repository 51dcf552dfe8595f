-- Each rule of declarations and each kind of piece is read just as the grammar says.
use Rattle.std.proofs.Common.{◌≡◌, ℕ, true, List, [], ◌∷◌, ◌++◌, refl}
use Rattle.grammar_forms.specs.Rule.{Behind}
use Rattle.grammar_forms.specs.Good.{Good}
use Rattle.grammar_forms.proofs.Good.{good_made, good_then, good_either, good_in}
use Rattle.grammar_forms.proofs.Optional.{good_and_optional}
use Rattle.grammar_forms.proofs.Joined.{good_behind, good_separated}
use Rattle.epl_lexer.specs.declared.token.Token.{Token}
use Rattle.epl_tree.specs.declared.unit.Declaration.TheVariants as declaration
use Rattle.epl_tree.specs.declared.unit.Member.TheVariants as member
use Rattle.primary_parser.specs.Tokens.{row_of}
use Rattle.primary_parser.specs.Words.{brace, closing_brace, parenthesis, closing_parenthesis, comma}
use Rattle.expr_parser.proofs.Items.{inside, good_word, good_placed, good_enclosed}
use Rattle.expr_parser.proofs.TypeLaws.{type_starts, good_type_alone}
use Rattle.decl_parser.specs.declared.region.Region.{Region}
use Rattle.decl_parser.specs.declared.region.Region.TheVariants as region
use Rattle.command_parser.specs.Words.{semicolon, assigns, action_word, else_word, event_word, monitor_word, returns_word}
use Rattle.decl_parser.specs.Units as tree
use Rattle.decl_parser.specs.Units.{IsField, IsEventDecl, IsGlobal, IsParams, IsSignature, IsAction, IsMember, IsMonitor, IsDeclaration}
use Rattle.decl_parser.specs.Pieces.{IsMonitorHead, IsActionHead, IsWholeStmt, IsPiece}
use Rattle.decl_parser.specs.Declaring.{field, event_name, fields, event_decl, initial_value, initialised, global, param, param_list, params, action_name, named_params, result_type, signature, body, action, member_at, monitor_name, members, monitor, declaration_at, monitor_head, action_head, whole_stmt, piece_outside, piece_in_monitor, piece_in_action, piece}
use Rattle.stmt_parser.proofs.Items.{good_before, good_braced, good_unfollowed}
use Rattle.stmt_parser.proofs.Overlaps.{good_expr_read}
use Rattle.stmt_parser.proofs.Laws.{stmt_starts, good_name_read, good_typed, good_stmt_alone}

-- what may begin a declaration
abbrev pub declaration_starts : List ℕ
declaration_starts = event_word ++ monitor_word

-- what may begin a piece
abbrev pub piece_starts : Region → List ℕ
piece_starts region.Outside = declaration_starts
piece_starts region.Monitor = type_starts ++ (action_word ++ closing_brace)
piece_starts region.Action = stmt_starts ++ closing_brace

module _ (tokens : List Token) where
  good_field : Good (row_of tokens) (IsField tokens) (field tokens) type_starts []
  unfolding field
  good_field = good_made tree.field_of (good_before tokens semicolon refl (good_typed tokens) refl)

  good_event_decl : Good (row_of tokens) (IsEventDecl tokens) (event_decl tokens) event_word []
  unfolding event_decl event_name fields
  good_event_decl =
      good_placed tokens tree.event_of
      (good_then (good_behind (good_name_read tokens) event_word (inside tokens event_word refl) refl)
      (good_braced tokens good_field refl refl refl) refl)

  good_global : Good (row_of tokens) (IsGlobal tokens) (global tokens) type_starts []
  unfolding global initialised initial_value
  good_global =
      good_made tree.global_of
      (good_before tokens semicolon refl
      (good_and_optional (good_typed tokens)
      (good_behind (good_expr_read tokens) assigns (inside tokens assigns refl) refl) refl) refl)

  good_params : Good (row_of tokens) (IsParams tokens) (params tokens) parenthesis []
  unfolding params param_list param
  good_params =
      good_enclosed tokens parenthesis closing_parenthesis refl refl
      (good_separated (good_made tree.param_of (good_typed tokens)) comma (inside tokens comma refl) refl refl) refl refl

  good_signature : Good (row_of tokens) (IsSignature tokens) (signature tokens) action_word returns_word
  unfolding signature named_params action_name result_type
  good_signature =
      good_and_optional
      (good_then (good_behind (good_name_read tokens) action_word (inside tokens action_word refl) refl) good_params refl)
      (good_behind (good_type_alone tokens) returns_word (inside tokens returns_word refl) refl) refl

  good_action : Good (row_of tokens) (IsAction tokens) (action tokens) action_word []
  unfolding action body
  good_action = good_placed tokens tree.action_of (good_then good_signature (good_braced tokens (good_stmt_alone tokens) refl refl refl) refl)

  good_member : Good (row_of tokens) (IsMember tokens) (member_at tokens) (type_starts ++ action_word) []
  unfolding member_at
  good_member = good_either (good_made member.Global good_global) (good_made member.Action good_action) refl

  good_monitor : Good (row_of tokens) (IsMonitor tokens) (monitor tokens) monitor_word []
  unfolding monitor monitor_name members
  good_monitor =
      good_placed tokens tree.monitor_of
      (good_then (good_behind (good_name_read tokens) monitor_word (inside tokens monitor_word refl) refl)
      (good_braced tokens good_member refl refl refl) refl)

  pub good_declaration : Good (row_of tokens) (IsDeclaration tokens) (declaration_at tokens) declaration_starts []
  unfolding declaration_at
  good_declaration = good_either (good_made declaration.Event good_event_decl) (good_made declaration.Monitor good_monitor) refl

  good_monitor_head : Good (row_of tokens) (IsMonitorHead tokens) (monitor_head tokens) monitor_word []
  unfolding monitor_head monitor_name
  good_monitor_head =
      good_then (good_behind (good_name_read tokens) monitor_word (inside tokens monitor_word refl) refl)
      (good_word tokens brace refl) refl

  good_action_head : Good (row_of tokens) (IsActionHead tokens) (action_head tokens) action_word []
  unfolding action_head
  good_action_head = good_then good_signature (good_word tokens brace refl) refl

  good_whole_stmt : Good (row_of tokens) (IsWholeStmt tokens) (whole_stmt tokens) stmt_starts []
  unfolding whole_stmt
  good_whole_stmt = good_unfollowed else_word (good_stmt_alone tokens)

  pub good_piece : (here : Region) → Good (row_of tokens) (IsPiece tokens here) (piece tokens here) (piece_starts here) []
  unfolding piece_outside piece_in_monitor piece_in_action
  good_piece region.Outside =
      good_either (good_made (λ _. region.Outside) good_event_decl) (good_made (λ _. region.Monitor) good_monitor_head) refl
  good_piece region.Monitor =
      good_either (good_made (λ _. region.Monitor) good_global)
      (good_either (good_made (λ _. region.Action) good_action_head)
      (good_made (λ _. region.Outside) (good_word tokens closing_brace refl)) refl) refl
  good_piece region.Action =
      good_either (good_made (λ _. region.Action) good_whole_stmt)
      (good_made (λ _. region.Monitor) (good_word tokens closing_brace refl)) refl
