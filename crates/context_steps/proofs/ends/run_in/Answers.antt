use Rattle.std.proofs.Common.{refl, ap, subst, ◌∙◌}
use Rattle.action_host.specs.Told.{Told}
use Rattle.plain_host.specs.Told.{told_of}
use Rattle.body_runs.specs.Comes.{Comes}
use Rattle.context_meaning.specs.Contexts.{Context, scene_of}
use Rattle.context_steps.specs.Steps.{told_first}
use Rattle.context_steps.proofs.Runs.{between, came, lends_begun, lends_fits, lends_none, lends_time}
use Rattle.context_steps.proofs.ends.run_in.Goals as goal

pub returns-in_default : goal.returns-in_default
returns-in_default g c = lends_none c.args.number c.args.context.now c.lend.new.self c.in_default.ensures.answer c.in_default.ensures.after

pub run_action-requires-clause-fits : goal.run_action-requires-clause-fits
run_action-requires-clause-fits g c = lends_fits c.args.around.now.program.now c.args.number c.args.body c.args.locals c.args.context.now c.in-Some.lent c.requires.runs c.in-Some.ensures.answer

pub apply_all-requires-clause-begun : goal.apply_all-requires-clause-begun
apply_all-requires-clause-begun g c = lends_begun c.args.around.now.program.now c.args.number c.args.body c.args.locals c.args.context.now c.set_fuel.new.self c.in-Some.lent c.requires.runs c.in-Some.ensures.answer (ap (λ (d : Context). d.begun) (between c.args.number c.run_action.new.host.fuel c.run_action.new.globals c.args.context.now c.lend.new.self c.put_back.new.self c.set_fuel.new.self c.in-Some.ensures.after c.put_back.ensures c.set_fuel.ensures))

pub apply_all-requires-clause-clock : goal.apply_all-requires-clause-clock
apply_all-requires-clause-clock g c = lends_time c.args.context.now c.set_fuel.new.self c.requires.fuel (ap (λ (d : Context). d.clock) (between c.args.number c.run_action.new.host.fuel c.run_action.new.globals c.args.context.now c.lend.new.self c.put_back.new.self c.set_fuel.new.self c.in-Some.ensures.after c.put_back.ensures c.set_fuel.ensures))

pub returns : goal.returns
returns g c =
    let host = c.run_action.new.host in
    came c.args.around.now.program.now c.args.ending c.args.number c.args.body c.args.locals c.run_action.new.globals c.args.context.now c.set_fuel.new.self c.apply_all.new.context c.in-Some.lent (told_of host) host.fuel c.in_ok-end.end
    c.requires.runs c.requires.fuel c.in-Some.ensures.answer refl refl host.small
    (subst (λ (t : Told). Comes c.args.around.now.program.now c.args.body c.in-Some.lent.globals c.args.locals t (told_of host) c.run_action.new.globals c.in_ok-end.end) (c.host_of-host.ensures ∙ ap (λ (d : Context). told_first (scene_of c.args.ending d)) c.in-Some.ensures.after) c.in_ok-end.ensures.comes)
    c.run_action.ensures.shapes
    (between c.args.number host.fuel c.run_action.new.globals c.args.context.now c.lend.new.self c.put_back.new.self c.set_fuel.new.self c.in-Some.ensures.after c.put_back.ensures c.set_fuel.ensures)
    c.in_ok-apply_all.ensures
