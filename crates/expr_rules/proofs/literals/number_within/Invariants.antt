use Rattle.std.proofs.Common.{◌≡◌, ◌≤◌, drop}
use Rattle.expr_rules.specs.Literals.{number_from, number_of}
use Rattle.expr_rules.proofs.literals.number_within.Given as goal

abbrev pub invariant-digits : goal.invariant-digits
invariant-digits l = (l.number ≤ l.limit) × (number_from l.number (drop l.digit-index l.digit-items) ≡ number_of l.fn.digits)
