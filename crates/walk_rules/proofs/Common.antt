-- The names that most files here cite, passed on from one place. Declares nothing.
pub use Rattle.std.proofs.Common.{Bool, Err, List, None, Ok, Option, Result, Some, [], ap, append_assoc, arith, drop, false, get_or, length, map, refl, subst, suc, sym, true, zero, ℕ, ⊎_elim, ◌∙◌}
pub use Rattle.std.proofs.lemmas.List.{drop_all}
pub use Rattle.std.specs.List.{Contains}
pub use Rattle.std.specs.Prelude.{slice_get}
pub use Rattle.action_host.specs.Scenes.{Scene}
pub use Rattle.action_host.specs.Told.{Told}
pub use Rattle.action_host.specs.declared.host.Effect.{Effect}
pub use Rattle.action_host.specs.declared.host.Fault.{Fault}
pub use Rattle.body_meaning.specs.Expressions.{Calls, Linking, Pairing, Reach, and_from, entries_behind, links_from, or_from, value_of, xor_from}
pub use Rattle.body_meaning.specs.Paths.{set_local}
pub use Rattle.body_meaning.specs.Runs.{Did, Ended, M, Outcome, State, Went, all, choose, nothing, then_do}
pub use Rattle.body_meaning.specs.Statements.{done, row, set, unless}
pub use Rattle.body_meaning.specs.Values.{truth_of}
pub use Rattle.body_meaning.specs.declared.run.Flow.{Flow}
pub use Rattle.body_meaning.specs.declared.run.Flow.TheVariants.{Next}
pub use Rattle.body_meaning.specs.declared.run.Frame.{Frame}
pub use Rattle.body_meaning.specs.declared.run.Halt.{Halt}
pub use Rattle.body_meaning.specs.declared.run.Halt.TheVariants.{Failed}
pub use Rattle.epl_values.specs.declared.shape.EventShape.{EventShape}
pub use Rattle.epl_values.specs.declared.value.Pair.{Pair}
pub use Rattle.epl_values.specs.declared.value.Value.{Value, Value-F, out-Value, roll-Value, roll-out-Value}
pub use Rattle.typed_program.specs.declared.expression.TypedExpr.{TypedExpr}
pub use Rattle.typed_program.specs.declared.statement.TypedPlace.{TypedPlace}
pub use Rattle.walk_rules.specs.Ran.{Does, Leads, Passes, Ran, Walks, did_of, outcome_of, standing, state_of}
pub use Rattle.walk_rules.specs.declared.stop.Stop.{Stop}
pub use Rattle.walk_rules.specs.declared.stop.Stop.TheVariants.{Halted, Memory}
