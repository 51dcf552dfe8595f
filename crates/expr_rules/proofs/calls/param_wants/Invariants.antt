use Rattle.std.proofs.Common.{◌≡◌, take}
use Rattle.expr_rules.specs.Calls.{param_wants}
use Rattle.expr_rules.proofs.calls.param_wants.Given as goal

abbrev pub invariant-params : goal.invariant-params
invariant-params l = l.wants ≡ param_wants (take l.param-index l.params)
