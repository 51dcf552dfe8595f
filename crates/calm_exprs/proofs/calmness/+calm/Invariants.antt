use Rattle.std.proofs.Common.{◌≡◌, drop}
use Rattle.std.specs.List.{list_all}
use Rattle.std.specs.Prelude.{◌&&◌}
use Rattle.typed_program.specs.declared.expression.TypedEntry.{out-TypedEntry}
use Rattle.typed_program.specs.declared.expression.TypedLink.{out-TypedLink}
use Rattle.calm_exprs.specs.Calm.{is_calm, is_calm_step, are_calm}
use Rattle.calm_exprs.proofs.calmness.+calm.Given as goal

abbrev pub invariant-all_calm-loop-e : goal.invariant-all_calm-loop-e
invariant-all_calm-loop-e l = are_calm (drop l.e-index l.es) ≡ are_calm l.es

abbrev pub invariant-links_calm-loop-link : goal.invariant-links_calm-loop-link
invariant-links_calm-loop-link l = list_all (λ k. is_calm (out-TypedLink k).operand) (drop l.link-index l.links) ≡ list_all (λ k. is_calm (out-TypedLink k).operand) l.links

abbrev pub invariant-entries_calm-loop-entry : goal.invariant-entries_calm-loop-entry
invariant-entries_calm-loop-entry l = list_all (λ e. is_calm (out-TypedEntry e).key && is_calm (out-TypedEntry e).value) (drop l.entry-index l.entries) ≡ list_all (λ e. is_calm (out-TypedEntry e).key && is_calm (out-TypedEntry e).value) l.entries

abbrev pub invariant-steps_calm-loop-step : goal.invariant-steps_calm-loop-step
invariant-steps_calm-loop-step l = list_all is_calm_step (drop l.step-index l.steps) ≡ list_all is_calm_step l.steps
