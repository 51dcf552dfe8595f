use Rattle.std.proofs.Common.{[], drop}
use Rattle.body_meaning.specs.Acts.{initials_from}
use Rattle.value_steps.specs.Orderly.{AreOrderly}
use Rattle.walk_rules.specs.Ran.{Leads}
use Rattle.call_walker.proofs.calls.initials.Given as goal

abbrev pub invariant-loop-number : goal.invariant-loop-number
invariant-loop-number g l = record {
  leads : Leads (initials_from l.program 0 l.monitor.globals) (g.H.Host.told l.fn.host) (record { globals = l.fn.globals; locals = [] }) (initials_from l.program l.number (drop l.number l.monitor.globals)) (g.H.Host.told l.host) (record { globals = l.globals; locals = [] });
  order : AreOrderly l.globals;
}
