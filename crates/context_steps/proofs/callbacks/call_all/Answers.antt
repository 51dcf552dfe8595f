use Rattle.std.proofs.Common.{◌∙◌}
use Rattle.context_steps.specs.Calls.{listener_in}
use Rattle.context_steps.proofs.Calling.{called_caller, called_fits, called_more, one_fits}
use Rattle.context_steps.proofs.callbacks.call_all.Goals as goal

pub call_unless_spent-requires-clause-bound : goal.call_unless_spent-requires-clause-bound
call_unless_spent-requires-clause-bound g c = one_fits c.args.around.now.program.now.types c.args.site.now.bound c.args.completions.now c.completions.completion-index c.completion-item.result c.requires.bound c.completions-test.true c.completion-item.is

pub completions-preserved : goal.completions-preserved
completions-preserved g c = record {
  means = called_more c.args.around.now.program.now (listener_in c.args.called.now) c.args.site.now c.args.completions.now c.completions.completion-index c.completion-item.result c.completions.context c.call_unless_spent.new.context c.completions-test.true c.completion-item.is c.in_ok-call_unless_spent.ensures.means ∙ c.completions.invariant.means;
  fits = called_fits c.args.around.now.program.now (listener_in c.args.called.now) c.args.site.now c.completion-item.result c.completions.context c.call_unless_spent.new.context c.requires.keeps c.completions.invariant.fits c.completions.invariant.caller (one_fits c.args.around.now.program.now.types c.args.site.now.bound c.args.completions.now c.completions.completion-index c.completion-item.result c.requires.bound c.completions-test.true c.completion-item.is) c.in_ok-call_unless_spent.ensures.means;
  caller = called_caller c.args.around.now.program.now (listener_in c.args.called.now) c.args.site.now c.completion-item.result c.completions.context c.call_unless_spent.new.context c.requires.keeps c.completions.invariant.fits c.completions.invariant.caller (one_fits c.args.around.now.program.now.types c.args.site.now.bound c.args.completions.now c.completions.completion-index c.completion-item.result c.requires.bound c.completions-test.true c.completion-item.is) c.in_ok-call_unless_spent.ensures.means;
  small = c.in_ok-call_unless_spent.ensures.small;
}
