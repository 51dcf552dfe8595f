-- The names that most files here cite, passed on from one place. Declares nothing.
pub use Rattle.std.proofs.Common.{Bool, Err, List, None, Ok, Option, Result, Some, [], ap, false, inl, inr, length, map, not, refl, subst, suc, sym, true, zero, ℕ, ◌∙◌}
pub use Rattle.std.proofs.lemmas.Bool.{eqb-true, or_cases}
pub use Rattle.std.proofs.lemmas.List.{append-nil, append_assoc}
pub use Rattle.std.proofs.lemmas.Option.{slice_get-map}
pub use Rattle.std.specs.List.{AllByRecursion, AllZip, list_all}
pub use Rattle.std.specs.Option.{option_map}
pub use Rattle.std.specs.Prelude.{is_some, nat_lt, slice_get}
pub use Rattle.action_host.specs.Scenes.{Scene}
pub use Rattle.action_host.specs.declared.host.Fault.{Fault}
pub use Rattle.body_meaning.specs.Acts.{action_run, calls}
pub use Rattle.body_meaning.specs.Expressions.{Calls, Linking, Meant, Pairing, Reach, and_from, entries_behind, links_from, or_from, read, value_of, values_of, xor_from}
pub use Rattle.body_meaning.specs.Paths.{alter, set_local, store, variable_in, with_variable}
pub use Rattle.body_meaning.specs.Runs.{Did, Ended, M, Outcome, State, Went, all, all_behind, choose, then_do}
pub use Rattle.body_meaning.specs.Statements.{again, body_of, is_next, row, set, stmt_meant}
pub use Rattle.body_meaning.specs.Values.{truth_of}
pub use Rattle.body_meaning.specs.declared.run.Flow.{Flow}
pub use Rattle.body_meaning.specs.declared.run.Flow.TheVariants.{Broke, Continued, Next, Returned}
pub use Rattle.body_meaning.specs.declared.run.Frame.{Frame}
pub use Rattle.body_meaning.specs.declared.run.Halt.{Halt}
pub use Rattle.body_meaning.specs.declared.run.Halt.TheVariants.{Died, Spent}
pub use Rattle.body_meaning.specs.declared.run.Move.{Move}
pub use Rattle.epl_tree.specs.declared.expression.Operator.{Operator}
pub use Rattle.epl_values.specs.declared.shape.EventShape.{EventShape}
pub use Rattle.epl_values.specs.declared.shape.Shape.{Shape, Shape-F, out-Shape, roll-Shape, roll-out-Shape}
pub use Rattle.epl_values.specs.declared.value.Pair.{Pair}
pub use Rattle.epl_values.specs.declared.value.Value.{Value, Value-F, out-Value}
pub use Rattle.event_types.specs.Types.{fields_of}
pub use Rattle.typed_program.specs.Courses.{Ending, Reading, ends_with_return}
pub use Rattle.typed_program.specs.Expressions.{Checked, Linked, Names, Paired, Stepping, agrees, all_of, are_of, checked, gives, if_known, is_of, may_stand, shape_of, stepping, walks}
pub use Rattle.typed_program.specs.Methods.{Signature}
pub use Rattle.typed_program.specs.Paths.{Visible}
pub use Rattle.typed_program.specs.Programs.{callback_params}
pub use Rattle.typed_program.specs.Shapes.{same, stands}
pub use Rattle.typed_program.specs.Statements.{Body, goes_to, loops, passes, place_so, row_holds, site_so}
pub use Rattle.typed_program.specs.Typed.{Typed}
pub use Rattle.typed_program.specs.declared.expression.Method.{Method}
pub use Rattle.typed_program.specs.declared.expression.TypedExpr.{TypedExpr}
pub use Rattle.typed_program.specs.declared.expression.TypedSuffix.{TypedSuffix}
pub use Rattle.typed_program.specs.declared.program.Action.{Action}
pub use Rattle.typed_program.specs.declared.program.Program.{Program}
pub use Rattle.typed_program.specs.declared.program.Site.{Site}
pub use Rattle.typed_program.specs.declared.statement.Stmt.{Stmt, Stmt-F, fold-roll-Stmt, ind-Stmt, map-Stmt, roll-Stmt}
pub use Rattle.typed_program.specs.declared.statement.TypedPlace.{TypedPlace}
pub use Rattle.typed_program.specs.declared.statement.Variable.{Variable}
pub use Rattle.typed_runs.specs.Bodies.{GlobalsFit, globals_in}
pub use Rattle.typed_runs.specs.Kept.{FrameFits, Keeps, ListenFits, OutcomeFits}
pub use Rattle.value_rules.specs.Costs.{cost_of}
pub use Rattle.value_rules.specs.Defaults.{default_of}
pub use Rattle.value_shapes.proofs.Defaults.{default_fits}
pub use Rattle.value_shapes.proofs.Lists.{fit_append, fit_cons, fit_nil}
pub use Rattle.value_shapes.proofs.Made.{boolean_fits, integer_fits, text_fits}
pub use Rattle.value_shapes.proofs.Same.{same_is}
pub use Rattle.value_shapes.specs.Fits.{AllFit, Fit, LeadsTo, MayFit, StepsTo}
