use Rattle.std.proofs.Common.{arith, sym, subst}
use Rattle.value_steps.specs.Orderly.{AreOrderly}
use Rattle.walk_rules.proofs.Leading.{leads_start}
use Rattle.walk_laws.proofs.Telling.{tells_err}
use Rattle.call_walker.proofs.Initials.{initials_pass, initials_more, initials_break, initials_all}
use Rattle.call_walker.proofs.calls.initials.Goals as goal
use Rattle.call_walker.proofs.calls.initials.Goals.{in-Some+in_ok-value, in_default}

pub loop-number-init : goal.loop-number-init
loop-number-init g c = record { leads = leads_start _ _ _; order = c.requires.globals }

pub returns-in_err-value-clause-means : goal.returns-in_err-value-clause-means
returns-in_err-value-clause-means g c = tells_err _ c.from_residual.ensures.1 (initials_break c.args.program.now c.args.monitor.now.globals c.as_slice-global-items.result.now c.as_slice-global-items.ensures c.loop-number.number c.global-item.result c.loop-number-test.true c.global-item.is c.args.globals.now c.loop-number.globals c.loop-number.invariant.leads c.in-Some.e c.in-Some.is c.new-none.result c.new-none.ensures c.value.new.globals c.in_err-value.ensures.means)

pub loop-number-preserved : goal.loop-number-preserved
loop-number-preserved g c = elim c.match-global.branch [
  | in-Some+in_ok-value w ↦ record {
    leads = initials_more c.args.program.now c.args.monitor.now.globals c.as_slice-global-items.result.now c.as_slice-global-items.ensures c.loop-number.number c.global-item.result c.loop-number-test.true c.global-item.is c.args.globals.now c.loop-number.globals c.loop-number.invariant.leads w.in-Some.e w.in-Some.is c.new-none.result c.new-none.ensures w.value.new.globals w.in_ok-value.value w.in_ok-value.ensures.means w.store_initial.new.globals c.match-global.globals w.store_initial.ensures.is w.globals-is (λ j. g.H.Host.told (w.host-is j));
    order = subst AreOrderly (sym w.globals-is) w.store_initial.ensures.kept;
  }
  | in_default w ↦ record {
    leads = initials_pass c.args.program.now c.args.monitor.now.globals c.as_slice-global-items.result.now c.as_slice-global-items.ensures c.loop-number.number c.global-item.result c.loop-number-test.true c.global-item.is c.args.globals.now c.loop-number.globals c.loop-number.invariant.leads w.in_default.is c.match-global.globals w.globals-is (λ j. g.H.Host.told (w.host-is j));
    order = subst AreOrderly (sym w.globals-is) c.loop-number.invariant.order;
  }
]

pub returns-clause-means : goal.returns-clause-means
returns-clause-means g c = initials_all c.args.program.now c.args.monitor.now.globals c.as_slice-global-items.result.now c.as_slice-global-items.ensures c.loop-number.number c.args.globals.now c.loop-number.globals (omega arith) c.loop-number.invariant.leads
