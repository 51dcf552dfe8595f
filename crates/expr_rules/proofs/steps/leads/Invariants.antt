use Rattle.std.proofs.Common.{◌≡◌, map, drop}
use Rattle.expr_rules.specs.Postfix.{leads, kind_of}
use Rattle.expr_rules.proofs.steps.leads.Given as goal

abbrev pub invariant-steps : goal.invariant-steps
invariant-steps l = leads l.changed (map kind_of (drop l.step-index l.steps)) ≡ leads l.changed (map kind_of l.steps)
