-- The names that most files here cite, passed on from one place. Declares nothing.
pub use Rattle.std.proofs.Common.{All, Bool, Contains, Err, List, None, Option, Some, [], ap, arith, false, filter, find, inl, inr, length, map, nat_le, nat_lt, not, refl, slice_get, subst, suc, sym, true, zero, ℕ, ℤ, ⊎_elim, ◌∙◌}
pub use Rattle.std.proofs.lemmas.Bool.{and_parts, cond_both, eqb-true}
pub use Rattle.std.proofs.lemmas.List.Elements.{All-cons, All-contains, All-filter, All-head, All-nil, All-push, All-tail, All-weaker}
pub use Rattle.std.proofs.lemmas.Option.{same_Some, slice_get_within}
pub use Rattle.std.specs.List.{AllByRecursion, list_all}
pub use Rattle.action_host.specs.Scenes.{Scene}
pub use Rattle.action_host.specs.declared.host.Effect.{Effect}
pub use Rattle.action_host.specs.declared.host.End.{End}
pub use Rattle.body_meaning.specs.Acts.{Act, act_of, come_to}
pub use Rattle.body_meaning.specs.Expressions.{Calls, Reach, value_of}
pub use Rattle.body_meaning.specs.Runs.{Ended, M, Outcome, Went}
pub use Rattle.body_meaning.specs.Statements.{body_of}
pub use Rattle.body_meaning.specs.declared.run.Flow.{Flow}
pub use Rattle.body_meaning.specs.declared.run.Move.{Move}
pub use Rattle.context_meaning.specs.Contexts.{Context, behind_charge, births_in, has_instances, in_row, instance_of, is_born, is_busy, is_instance, is_its, listener_of, put_expression, put_globals, row_in_front, scene_of, spend, unless_spent, with_clock, with_expression, with_front, with_fuel, with_globals, with_instance, with_line, with_listener, with_some, without_birth, without_instance, without_listeners}
pub use Rattle.context_meaning.specs.Ends.{act_in, apply, apply_all, come, dying, ended, fault_line, finished, idle, idle_in, last_run, listening, ran, run_in, with_act}
pub use Rattle.context_meaning.specs.Fits.{ContextFits, InstanceFits, ListenerFits, MayRun, WaitingFits}
pub use Rattle.record_book.specs.Fits.{CargoFits, IsTime}
pub use Rattle.context_meaning.specs.Handling.{cargo_handled, defaults_in, drained, event_turns, first_handled, front_handled, front_weight, handle, last_number, load_handled, marks_of, met, one_turn, settled, thing_handled, timed, unmatched, weight_of, where_instances}
pub use Rattle.context_meaning.specs.Listeners.{Listener, callback_locals}
pub use Rattle.context_meaning.specs.Turns.{Turned, at_site, body_number, called, called_all, called_live, gone, left_over, step_at, step_taken, stepped, stepped_born, turn, turned}
pub use Rattle.record_book.specs.declared.cargo.Cargo.{Cargo}
pub use Rattle.context_meaning.specs.declared.context.Instance.{Instance}
pub use Rattle.context_meaning.specs.declared.context.Waiting.{Waiting}
pub use Rattle.epl_values.specs.declared.shape.EventShape.{EventShape}
pub use Rattle.epl_values.specs.declared.shape.Shape.{Shape}
pub use Rattle.epl_values.specs.declared.value.Pair.{Pair}
pub use Rattle.epl_values.specs.declared.value.Value.{Value, Value-F, out-Value}
pub use Rattle.term_meaning.specs.UnderWay.{UnderWay, begun_in, left_of, setting_of}
pub use Rattle.term_meaning.specs.declared.progress.Stepped.{Stepped}
pub use Rattle.term_meaning.specs.declared.stimulus.Binding.{Binding}
pub use Rattle.term_meaning.specs.declared.stimulus.Stimulus.{Stimulus}
pub use Rattle.term_shapes.specs.Kept.{CompletionFits, CompletionsFit, ExpressionFits, HeardFits}
pub use Rattle.typed_program.specs.Programs.{ends_plain, runs_plain}
pub use Rattle.typed_program.specs.Shapes.{stands}
pub use Rattle.typed_program.specs.Typed.{Typed}
pub use Rattle.typed_program.specs.declared.expression.Method.{Method}
pub use Rattle.typed_program.specs.declared.expression.TypedExpr.{TypedExpr}
pub use Rattle.typed_program.specs.declared.expression.TypedSuffix.{TypedSuffix}
pub use Rattle.typed_program.specs.declared.program.Action.{Action}
pub use Rattle.typed_program.specs.declared.program.Global.{Global}
pub use Rattle.typed_program.specs.declared.program.Monitor.{Monitor}
pub use Rattle.typed_program.specs.declared.program.Program.{Program}
pub use Rattle.typed_program.specs.declared.program.Site.{Site}
pub use Rattle.typed_program.specs.declared.statement.Stmt.{Stmt}
pub use Rattle.typed_program.specs.declared.term.Term.{Term}
pub use Rattle.typed_runs.specs.Bodies.{GlobalsFit, head_of}
pub use Rattle.value_rules.specs.Costs.{cost_of}
pub use Rattle.value_rules.specs.Defaults.{default_of}
pub use Rattle.value_shapes.proofs.Defaults.{default_fits}
pub use Rattle.value_shapes.proofs.Lists.{fit_cons, fit_nil}
pub use Rattle.value_shapes.specs.Fits.{AllFit}
