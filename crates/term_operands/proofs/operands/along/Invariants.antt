use Rattle.std.proofs.Common.{◌≡◌, drop, Some}
use Rattle.term_meaning.specs.Operands.{along}
use Rattle.term_operands.proofs.operands.along.Given as goal

abbrev pub invariant-fields : goal.invariant-fields
invariant-fields l = along l.fields (Some l.fn.value) ≡ along (drop l.field-index l.fields) (Some l.at)
