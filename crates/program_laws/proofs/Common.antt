-- The names that most files here cite, passed on from one place. Declares nothing.
pub use Rattle.std.proofs.Common.{Bool, IfSome, List, None, Option, Some, [], ap, append_assoc, ap₂, arith, codes, cond, drop, false, filter, get_or, inl, inr, insert, is_some, length, map, min, nat_le, nat_lt, not, option_map, pos, refl, slice_get, subst, suc, sym, take, true, true≢false, zero, ℕ, ℤ, ◌∙◌}
pub use Rattle.std.proofs.Math.Seq.{drop-append_seam}
pub use Rattle.std.proofs.lemmas.Bool.{and_from, and_parts, cases_lt, eq-eqb, eqb-true, le-leb, leb-false, lt-ltb, not-false, not-true, not_from_false, or_cases, or_from, or_left, or_parts, or_right}
pub use Rattle.std.proofs.lemmas.Bool.Decides.{nat_tests}
pub use Rattle.std.proofs.lemmas.Grind.{flat_map-append}
pub use Rattle.std.proofs.lemmas.List.{append-nil, length-append, length-map, length_push, take-append-drop}
pub use Rattle.std.proofs.lemmas.List.Edits.{length-insert}
pub use Rattle.std.proofs.lemmas.List.Elements.{filter-append}
pub use Rattle.std.proofs.lemmas.List.Folds.{list_all-append, list_all-map, list_any-append}
pub use Rattle.std.proofs.lemmas.List.Quantifiers.{position-Some}
pub use Rattle.std.proofs.lemmas.List.Sums.{sum_by-append, sum_by-cons}
pub use Rattle.std.proofs.lemmas.Option.{get_or_from_slice_get, slice_get-map, slice_get_within}
pub use Rattle.std.proofs.lemmas.Slice.Eq.{bytes_eq-Decides}
pub use Rattle.std.specs.List.{AllByRecursion, find, flat_map, list_all, list_any, position, position_or_len}
pub use Rattle.std.specs.Str.{bytes_eq}
pub use Rattle.epl_tree.specs.declared.event.Constraint.{Constraint}
pub use Rattle.epl_tree.specs.declared.event.ConstraintNode.{ConstraintNode}
pub use Rattle.epl_tree.specs.declared.event.Duration.{Duration}
pub use Rattle.epl_tree.specs.declared.event.DurationNode.{DurationNode}
pub use Rattle.epl_tree.specs.declared.event.EventExpr.{EventExpr, EventExpr-F, fold-roll-EventExpr, map-EventExpr, roll-EventExpr}
pub use Rattle.epl_tree.specs.declared.event.EventNode.{EventNode, EventNode-F, fold-EventNode, fold-roll-EventNode, map-EventNode, roll-EventNode}
pub use Rattle.epl_tree.specs.declared.event.EventNode.TheFolds.{ind-EventExpr}
pub use Rattle.epl_tree.specs.declared.event.Range.{Range}
pub use Rattle.epl_tree.specs.declared.event.Template.{Template}
pub use Rattle.epl_tree.specs.declared.event.TemplateClause.{TemplateClause}
pub use Rattle.epl_tree.specs.declared.expression.Comparison.{Comparison}
pub use Rattle.epl_tree.specs.declared.expression.Entry.{Entry, Entry-F, fold-roll-Entry, map-Entry, roll-Entry}
pub use Rattle.epl_tree.specs.declared.expression.Expr.{Expr, Expr-F, fold-roll-Expr, fold_out-Expr, map-Expr, out-Expr, roll-Expr}
pub use Rattle.epl_tree.specs.declared.expression.ExprNode.{ExprNode, ExprNode-F, fold-ExprNode, fold-roll-ExprNode, fold_out-ExprNode, map-ExprNode, roll-ExprNode}
pub use Rattle.epl_tree.specs.declared.expression.ExprNode.TheFolds.{ind-Expr}
pub use Rattle.epl_tree.specs.declared.expression.Link.{Link, Link-F, fold-roll-Link, fold_out-Link, map-Link, out-Link, roll-Link}
pub use Rattle.epl_tree.specs.declared.expression.Operator.{Operator}
pub use Rattle.epl_tree.specs.declared.expression.Suffix.{Suffix, Suffix-F, fold-roll-Suffix, fold_out-Suffix, map-Suffix, out-Suffix, roll-Suffix}
pub use Rattle.epl_tree.specs.declared.expression.SuffixNode.{SuffixNode, SuffixNode-F, fold-SuffixNode, fold-roll-SuffixNode, fold_out-SuffixNode, map-SuffixNode, out-SuffixNode, roll-SuffixNode}
pub use Rattle.epl_tree.specs.declared.name.Name.{Name}
pub use Rattle.epl_tree.specs.declared.statement.Listening.{Listening}
pub use Rattle.epl_tree.specs.declared.statement.Place.{Place}
pub use Rattle.epl_tree.specs.declared.statement.StmtNode.{StmtNode}
pub use Rattle.epl_tree.specs.declared.statement.StmtNode.TheFolds.{fold-Listening, fold-Stmt, fold-StmtNode, fold-roll-Stmt, fold-roll-StmtNode, ind-Stmt, map-Stmt, map-StmtNode}
pub use Rattle.epl_tree.specs.declared.statement.StmtNode.TheOpen.{Stmt-F, StmtNode-F}
pub use Rattle.epl_tree.specs.declared.statement.StmtNode.TheViews.{roll-Stmt, roll-StmtNode}
pub use Rattle.epl_tree.specs.declared.types.TypeExpr.{TypeExpr}
pub use Rattle.epl_tree.specs.declared.types.TypeNode.{TypeNode}
pub use Rattle.epl_tree.specs.declared.types.TypeNode.TheFolds.{fold-TypeNode, fold-roll-TypeExpr, fold-roll-TypeNode, ind-TypeExpr, map-TypeNode}
pub use Rattle.epl_tree.specs.declared.types.TypeNode.TheOpen.{TypeNode-F}
pub use Rattle.epl_tree.specs.declared.types.TypeNode.TheViews.{roll-TypeExpr, roll-TypeNode}
pub use Rattle.epl_tree.specs.declared.unit.ActionDecl.{ActionDecl}
pub use Rattle.epl_tree.specs.declared.unit.Declaration.{Declaration}
pub use Rattle.epl_tree.specs.declared.unit.EventDecl.{EventDecl}
pub use Rattle.epl_tree.specs.declared.unit.FieldDecl.{FieldDecl}
pub use Rattle.epl_tree.specs.declared.unit.GlobalDecl.{GlobalDecl}
pub use Rattle.epl_tree.specs.declared.unit.Member.{Member}
pub use Rattle.epl_tree.specs.declared.unit.MonitorDecl.{MonitorDecl}
pub use Rattle.epl_tree.specs.declared.unit.Param.{Param}
pub use Rattle.epl_values.specs.declared.shape.EventShape.{EventShape}
pub use Rattle.epl_values.specs.declared.shape.Field.{Field}
pub use Rattle.epl_values.specs.declared.shape.Shape.{Shape, Shape-F, map-Shape, out-Shape, roll-Shape, roll-out-Shape}
pub use Rattle.epl_values.specs.declared.shape.Shape.TheFolds.{fold-roll-Shape}
pub use Rattle.event_types.specs.Types.{HasNoCycle, IsAmong, types_in}
pub use Rattle.expr_check.specs.Checks.{place_found, target_at, target_of, variable_layer, variable_of}
pub use Rattle.expr_check.specs.Expressions.{Node, StepNode, entry_part, entry_step, expr_found, expr_step, link_part, link_step, node_step, suffix_node_step, suffix_step, typed_of}
pub use Rattle.expr_check.specs.declared.check.Target.{Target}
pub use Rattle.expr_rules.specs.Asked.{Channel, Demand, Event, Exactly, Key, Sequence, Statement, Value, Wish, asked_by, inside, like, operand}
pub use Rattle.expr_rules.specs.Calls.{action_named, action_plan, argument_found, argument_of, arguments_found, call_found, call_paths, callee_code, callee_node, context_code, context_found, context_start, count_code, event_plan, fields_at, is_callback, items_of, missing_plan, next_wish, no_arguments, param_wants, plan_found, plan_of, result_given, typed_arguments}
pub use Rattle.expr_rules.specs.Literals.{Pair, boolean_stands, current_stands, dictionary_found, dictionary_given, dictionary_items, element_found, element_wish, empty_code, empty_stands, entry_found, fixed, greatest, integer_found, integer_stands, integer_value, key_wish, known_first, literal_stands, no_elements, no_entries, sequence_found, sequence_given, sequence_items, text_stands, value_wish}
pub use Rattle.expr_rules.specs.Methods.{called_by, called_of, called_on, is_change, method_reach, row_of, unknown_call, wants_of_shapes}
pub use Rattle.expr_rules.specs.Names.{item_at, name_found, outer_code, root_of, seen, variable}
pub use Rattle.expr_rules.specs.Operators.{Linked, Part, addable, chain_start, comparison_found, given_by, join_found, level_node, link_found, linked, links_found, links_start, logic_found, logic_node, minus_found, minus_node, not_found, operated, sort_of_expr, truth, truths, with_link, with_operand}
pub use Rattle.expr_rules.specs.Places.{astray_code, change_code, given_codes, judged, key_codes, known, misfit_codes, path_codes, place_codes, shape_given, shape_of_expr}
pub use Rattle.expr_rules.specs.Postfix.{Step, called_found, demand_before, element_reach_layer, field_found, field_named, field_reach, index_found, is_far, method_found, method_kind, missing_field, near, nearer, postfix_found, reached, step_found, walk_found, walk_start, walked}
pub use Rattle.expr_rules.specs.Shapes.{is_known_reference}
pub use Rattle.expr_rules.specs.Then.{codes_of, lower, sound}
pub use Rattle.expr_rules.specs.declared.asked.Paths.{Paths}
pub use Rattle.expr_rules.specs.declared.calls.Arguments.{Arguments}
pub use Rattle.expr_rules.specs.declared.literals.Elements.{Elements}
pub use Rattle.expr_rules.specs.declared.literals.EntryList.{EntryList}
pub use Rattle.expr_rules.specs.declared.methods.Called.{Called}
pub use Rattle.expr_rules.specs.declared.methods.MethodCall.{MethodCall}
pub use Rattle.expr_rules.specs.declared.methods.Reach.{Reach}
pub use Rattle.expr_rules.specs.declared.operators.Chain.{Chain}
pub use Rattle.expr_rules.specs.declared.operators.Level.{Level}
pub use Rattle.expr_rules.specs.declared.operators.LinkChain.{LinkChain}
pub use Rattle.expr_rules.specs.declared.operators.Logic.{Logic}
pub use Rattle.expr_rules.specs.declared.operators.Sort.{Sort}
pub use Rattle.expr_rules.specs.declared.placed.Gives.{Gives}
pub use Rattle.expr_rules.specs.declared.placed.Judged.{Judged}
pub use Rattle.expr_rules.specs.declared.placed.Root.{Root}
pub use Rattle.expr_rules.specs.declared.steps.StepKind.{StepKind}
pub use Rattle.expr_rules.specs.declared.steps.Walk.{Walk}
pub use Rattle.listener_check.specs.Bound.{binds, bound_of, clause_binds, clauses_bind, inner_of, is_among, is_own, local_of, local_shape, seen_bound}
pub use Rattle.listener_check.specs.Constraints.{constraint_read, constraint_step, constraints_read, field_codes, found_read, is_named, lies, missing_code, missing_read, none_done, number_of, numbered_read}
pub use Rattle.listener_check.specs.Durations.{decimal_by, tenths, tenths_of}
pub use Rattle.listener_check.specs.Limits.{leaf_codes, sum_codes, with_leaf, with_sum}
pub use Rattle.listener_check.specs.Operands.{bound, path_layer, place_layer, sum_layer}
pub use Rattle.listener_check.specs.Templates.{clauses_read, fields_of, is_full, is_taken, name_codes, no_clauses, template_of, template_read, with_name}
pub use Rattle.listener_check.specs.Terms.{behind_step, each_behind, each_step, may_begin, not_codes, nothing_yet, term_found, term_read}
pub use Rattle.listener_check.specs.Values.{Layer, form_layer, is_field_layer, is_path_layer, is_path_of, is_root_layer, layer_of, links_naming, naming_of, sign_naming}
pub use Rattle.listener_check.specs.Went.{Went, went}
pub use Rattle.listener_check.specs.declared.constraint.Done.{Done}
pub use Rattle.listener_check.specs.declared.operand.Reached.{Reached}
pub use Rattle.listener_check.specs.declared.sofar.Sofar.{Sofar}
pub use Rattle.listener_check.specs.declared.template.Clauses.{Clauses}
pub use Rattle.listener_check.specs.declared.value.Naming.{Naming}
pub use Rattle.program_laws.specs.Known.{Knows, KnowsAction, KnowsName, KnowsNamed, KnowsTable, KnowsType, answers, by_number, gives_result, result_stands, wish_stands, wished}
pub use Rattle.program_laws.specs.Sees.{KeepsSpecial, Mentioned, SameRoot, SeesName, SeesNamed, bound_refers, is_barred, is_outer, kind_seen, permitted}
pub use Rattle.span_text.specs.declared.spot.Spot.{Spot}
pub use Rattle.stmt_check.specs.Actions.{action_of, action_read, actions_before, body_around, body_start, is_global_named, is_param_named, member_codes, param_codes, param_read}
pub use Rattle.stmt_check.specs.Bodies.{Around, action_in, bound_in, bound_seen, callback_start, captured_in, in_callback, in_loop, is_special, known_shape, left, local_codes, local_read, outer_kind, place_among, scoped, seen_local, short, site_number, site_of, when, with_local, with_site}
pub use Rattle.stmt_check.specs.Captures.{any_of, clause_names, constraint_names, duration_names, either, entry_names, event_names, event_node, event_step, expr_names, expr_node, exprs_name, if_any, limit_names, link_names, none, optional_names, place_names, range_names, suffix_names, template_names}
pub use Rattle.stmt_check.specs.Endings.{ends_with_return}
pub use Rattle.stmt_check.specs.Members.{action_number, global_codes, global_read, members_read, monitor_of, or_zero, with_global}
pub use Rattle.stmt_check.specs.Programs.{IsProgram, declarations_read, file_made, files_faults, files_made, made_of, nothing_made}
pub use Rattle.stmt_check.specs.Statements.{NodePart, OnPart, args_read, asked, assign_on_read, assign_read, begun_read, block_read, call_read, callback_read, channel_read, control, control_codes, declare_as_read, declare_on_read, declare_read, exactly, for_place, for_read, has_result, if_read, is_subscribe, jump_read, listen_read, log_read, maybe_read, monitor_read, node_part, on_codes, on_part, on_read, other_read, print_read, reads, return_codes, return_read, route_read, row_read, send_read, spawn_codes, spawn_read, spawned_read, stmt_part, takes_listener, target_shape, turn_read, wanted, while_read}
pub use Rattle.stmt_check.specs.Steps.{After, Reads}
pub use Rattle.stmt_check.specs.declared.made.Made.{Made}
pub use Rattle.stmt_check.specs.declared.state.State.{State}
pub use Rattle.type_table.specs.Chains.{at_event, contains_itself, field_count, met, met_node, met_step}
pub use Rattle.type_table.specs.Found.{Found, told}
pub use Rattle.type_table.specs.Gathers.{count_of, declaration_faults, event_faults, event_shape, faults_from, field_faults, fields_faults, gathered_after, in_file, monitor_faults, none_gathered, numbers, units_faults, units_gathered, with_event, with_monitor}
pub use Rattle.type_table.specs.Heads.{actions_from, globals_in, has_onload, param_head, result_head}
pub use Rattle.type_table.specs.Kinds.{declarations_of, found_at, kinds_after, kinds_of, names_of, with_kind}
pub use Rattle.type_table.specs.Names.{has_name, number_in}
pub use Rattle.type_table.specs.Scopes.{global_seen, globals_after, params_from}
pub use Rattle.type_table.specs.Table.{event_of, seen_of}
pub use Rattle.type_table.specs.Types.{Written, node_found, type_by, type_found, written_of, written_step}
pub use Rattle.type_table.specs.declared.fault.Fault.{Fault}
pub use Rattle.type_table.specs.declared.gathered.Gathered.{Gathered}
pub use Rattle.type_table.specs.declared.scope.Scope.{Scope}
pub use Rattle.type_table.specs.declared.scope.Seen.{Seen}
pub use Rattle.type_table.specs.declared.scope.SeenKind.{SeenKind}
pub use Rattle.type_table.specs.declared.table.ActionHead.{ActionHead}
pub use Rattle.type_table.specs.declared.table.GlobalHead.{GlobalHead}
pub use Rattle.type_table.specs.declared.table.MonitorHead.{MonitorHead}
pub use Rattle.type_table.specs.declared.table.ParamHead.{ParamHead}
pub use Rattle.type_table.specs.declared.table.Table.{Table}
pub use Rattle.typed_program.specs.Courses.{Reading, assigns, bound_from, captured_from, kind_inside}
pub use Rattle.typed_program.specs.Expressions.{Checked, Names, Paired, Stepping, agrees, are_of, checked, entry_so, expr_so, field_shape, have, holds, if_known, is_add, is_of, link_so, may_compare, may_stand, node_so, shape_in, shape_of, step_so, stepping, suffix_so, walks}
pub use Rattle.typed_program.specs.Limits.{are_narrow}
pub use Rattle.typed_program.specs.Mentions.{Mention, all_mention, mentions, place_mentions}
pub use Rattle.typed_program.specs.Methods.{Signature}
pub use Rattle.typed_program.specs.Paths.{Bound, Going, Held, Kind, Path, Sight, Visible, argument, end_of, entry_path, expr_path, goes, going_of, is_reference_of, link_path, local, may_change, node_path, path_of, step_path, suffix_path, value, visible_at}
pub use Rattle.typed_program.specs.Programs.{HasShapes, action_so, callback_params, global_shapes, global_so, is_there, monitor_so, names_in, site_so}
pub use Rattle.typed_program.specs.Rules.{action_lawful, initial_lawful, monitor_lawful, special_in}
pub use Rattle.typed_program.specs.Shapes.{Standing, holds_link, is_ordered_layer, is_scalar_layer, is_sequence_layer, same, standing_step, stands}
pub use Rattle.typed_program.specs.Statements.{Body, is_local, passes, stmt_holds, variable_shape}
pub use Rattle.typed_program.specs.TermRules.{all_plain, asked_fields, constraint_lawful, count_up, differ, follow, named_in, operands_in, term_lawful, term_part}
pub use Rattle.typed_program.specs.Terms.{constraint_so, duration_so, fits_term, given_is, operand_so, path_is}
pub use Rattle.typed_program.specs.declared.expression.Method.{Method}
pub use Rattle.typed_program.specs.declared.expression.TypedEntry.{TypedEntry, fold-TypedEntry, fold-roll-TypedEntry, roll-TypedEntry}
pub use Rattle.typed_program.specs.declared.expression.TypedExpr.{TypedExpr, fold-roll-TypedExpr, fold_out-TypedExpr, out-TypedExpr, out-roll-TypedExpr, roll-TypedExpr}
pub use Rattle.typed_program.specs.declared.expression.TypedLink.{TypedLink, fold-TypedLink, fold-roll-TypedLink, out-TypedLink, out-roll-TypedLink, roll-TypedLink}
pub use Rattle.typed_program.specs.declared.expression.TypedNode.{TypedNode, TypedNode-F, fold-TypedNode, fold-roll-TypedNode, map-TypedNode, out-TypedNode, roll-TypedNode}
pub use Rattle.typed_program.specs.declared.expression.TypedSuffix.{TypedSuffix, fold-roll-TypedSuffix, roll-TypedSuffix}
pub use Rattle.typed_program.specs.declared.expression.TypedSuffixNode.{TypedSuffixNode, TypedSuffixNode-F, fold-TypedSuffixNode, fold-roll-TypedSuffixNode, map-TypedSuffixNode, roll-TypedSuffixNode}
pub use Rattle.typed_program.specs.declared.program.Action.{Action}
pub use Rattle.typed_program.specs.declared.program.Global.{Global}
pub use Rattle.typed_program.specs.declared.program.Local.{Local}
pub use Rattle.typed_program.specs.declared.program.Monitor.{Monitor}
pub use Rattle.typed_program.specs.declared.program.Program.{Program}
pub use Rattle.typed_program.specs.declared.program.Site.{Site}
pub use Rattle.typed_program.specs.declared.program.TypedTerm.{TypedTerm}
pub use Rattle.typed_program.specs.declared.statement.Stmt.{Stmt}
pub use Rattle.typed_program.specs.declared.statement.Variable.{Variable}
pub use Rattle.typed_program.specs.declared.term.Operand.{Operand}
pub use Rattle.typed_program.specs.declared.term.TemplateShape.{TemplateShape}
pub use Rattle.typed_program.specs.declared.term.Term.{Term, Term-F, fold-roll-Term, map-Term, roll-Term}
