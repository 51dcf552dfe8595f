-- The names that most files here cite, passed on from one place. Declares nothing.
pub use Rattle.std.proofs.Common.{Bool, List, None, Option, Some, [], ap, arith, cond, eqb, false, length, ltb, map, refl, slice_get, subst, suc, sym, true, zero, ℕ, ℤ, ◌∙◌}
pub use Rattle.std.specs.List.{find}
pub use Rattle.std.specs.Prelude.{nat_le}
pub use Rattle.action_host.specs.declared.host.Effect.{Effect}
pub use Rattle.action_host.specs.declared.host.End.{End}
pub use Rattle.body_meaning.specs.Acts.{Act}
pub use Rattle.context_meaning.specs.Contexts.{Context, behind_charge, instance_of, is_instance, listener_of, paid, put_globals, spend, unless_spent, with_fuel, with_globals, with_some}
pub use Rattle.context_meaning.specs.Ends.{act_in, apply, apply_all, fault_line, finished, idle, last_run, ran, run_in, with_act}
pub use Rattle.context_meaning.specs.Fits.{ContextFits}
pub use Rattle.context_meaning.specs.Listeners.{Listener}
pub use Rattle.context_meaning.specs.declared.context.Instance.{Instance}
pub use Rattle.context_steps.specs.Steps.{CallerFits, CanRunIn, InRange, Keeps}
pub use Rattle.epl_values.specs.declared.value.Value.{Value}
pub use Rattle.typed_program.specs.declared.program.Program.{Program}
pub use Rattle.typed_program.specs.declared.program.Site.{Site}
pub use Rattle.typed_runs.specs.Bodies.{GlobalsFit}
