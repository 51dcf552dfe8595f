use Rattle.context_steps.proofs.Rows.{apply_all_more, still_begun, still_time}
use Rattle.context_steps.proofs.effects.apply_all.Goals as goal

pub apply-requires-clause-begun : goal.apply-requires-clause-begun
apply-requires-clause-begun c = still_begun c.args.program.now c.args.instance c.args.ending c.loop-effect.yielded c.args.context.now c.loop-effect.context c.loop-effect.invariant c.requires.begun

pub apply-requires-clause-clock : goal.apply-requires-clause-clock
apply-requires-clause-clock c = still_time c.args.program.now c.args.instance c.args.ending c.loop-effect.yielded c.args.context.now c.loop-effect.context c.loop-effect.invariant c.requires.clock

pub loop-effect-preserved : goal.loop-effect-preserved
loop-effect-preserved c = apply_all_more c.args.program.now c.args.instance c.args.ending c.loop-effect.yielded c.in-Some.effect c.args.context.now c.loop-effect.context c.apply.new.context c.loop-effect.invariant c.in_ok-apply.ensures
