use Rattle.std.proofs.Common.{ap, ◌∙◌, map}
use Rattle.value_rules.specs.Defaults.{default_of}
use Rattle.typed_program.specs.declared.program.Global.{Global}
use Rattle.context_steps.proofs.Fronts.{can_load}
use Rattle.context_steps.proofs.handling.begin_monitor.Goals as goal

pub run-requires-clause-runs : goal.run-requires-clause-runs
run-requires-clause-runs g c = can_load c.args.around.now.program.now c.args.number c.args.monitor.now c.args.context.now c.begin.new.self c.in_ok-globals.globals c.new.result c.in_ok-instance.instance c.requires.keeps c.requires.there c.requires.fits c.in_ok-instance.ensures.after (c.in_ok-globals.ensures ∙ ap (map (λ (g : Global). default_of c.args.around.now.program.now.types g.shape)) c.as_slice.ensures) c.in_ok-instance.ensures.number c.new.ensures
