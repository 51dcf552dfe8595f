use Rattle.std.proofs.Common.{rules}
use Rattle.correlator_run.proofs.Texts.{texts-more, short-more, count-more}
use Rattle.correlator_run.proofs.load.texts_of.Goals as goal

pub names-preserved : goal.names-preserved
names-preserved g c = record {
  texts = texts-more _ _ c.as_slice-name-items.result.now c.args.names.now c.names.name-index c.name-item.result c.in_ok-text.text c.names.texts c.push.new.self c.as_slice-name-items.ensures c.names-test.true c.name-item.is c.names.invariant.texts
      c.names.invariant.files c.in_ok-text.ensures.read c.in_ok-push.ensures.ok;
  short = short-more c.names.texts c.push.new.self c.in_ok-text.text c.names.invariant.short c.in_ok-text.ensures.within c.in_ok-push.ensures.ok;
  count = count-more c.names.texts c.push.new.self c.in_ok-text.text c.names.name-index c.names.invariant.count c.in_ok-push.ensures.ok;
  files = search rules;
  faults = search rules;
  missed = search rules;
}
