use Rattle.std.proofs.lemmas.Result.{on_ok_weaker}
use Rattle.context_steps.proofs.Handled.{handled_fits, handled_fuel, handled_row, handled_slot}
use Rattle.context_steps.proofs.Keeping.{keeps_of}
use Rattle.context_steps.proofs.handling.handle.Goals as goal

-- the law is what runs_keep_shapes of typed_runs and expressions_keep_shapes of term_shapes ensure
pub handle_kept-requires-clause-keeps : goal.handle_kept-requires-clause-keeps
handle_kept-requires-clause-keeps g c = keeps_of c.args.program.now c.requires.typed (record { runs = c.runs_keep_shapes.ensures; begins = c.expressions_keep_shapes.ensures.begins; steps = c.expressions_keep_shapes.ensures.steps })

pub returns-clause-fits : goal.returns-clause-fits
returns-clause-fits g c = on_ok_weaker c.handle_kept.result (handled_fits c.args.program.now c.requires.typed (record { runs = c.runs_keep_shapes.ensures; begins = c.expressions_keep_shapes.ensures.begins; steps = c.expressions_keep_shapes.ensures.steps }) c.args.context.now c.handle_kept.new.context c.args.number c.args.cargo c.requires.cargo c.requires.fits) c.handle_kept.ensures.means

pub returns-clause-row : goal.returns-clause-row
returns-clause-row g c = on_ok_weaker c.handle_kept.result (handled_row c.args.program.now c.args.context.now c.handle_kept.new.context c.args.number c.args.cargo) c.handle_kept.ensures.means

pub returns-clause-fuel : goal.returns-clause-fuel
returns-clause-fuel g c = on_ok_weaker c.handle_kept.result (handled_fuel c.args.program.now c.args.context.now c.handle_kept.new.context c.args.number c.args.cargo) c.handle_kept.ensures.means

pub returns-clause-slot : goal.returns-clause-slot
returns-clause-slot g c = on_ok_weaker c.handle_kept.result (handled_slot c.args.program.now c.args.context.now c.handle_kept.new.context c.args.number c.args.cargo) c.handle_kept.ensures.means
