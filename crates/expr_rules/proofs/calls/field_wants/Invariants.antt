use Rattle.std.proofs.Common.{◌≡◌, take}
use Rattle.expr_rules.specs.Calls.{field_wants}
use Rattle.expr_rules.proofs.calls.field_wants.Given as goal

abbrev pub invariant-fields : goal.invariant-fields
invariant-fields l = l.wants ≡ field_wants (take l.field-index l.fields)
