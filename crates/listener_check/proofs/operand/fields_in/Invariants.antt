use Rattle.std.proofs.Common.{◌≡◌, ◌++◌, drop}
use Rattle.listener_check.specs.Operands.{fields_in}
use Rattle.listener_check.proofs.operand.fields_in.Given as goal

abbrev pub invariant-loop-suffix : goal.invariant-loop-suffix
invariant-loop-suffix l = l.fields ++ fields_in (drop l.suffix-index l.suffixes) ≡ fields_in l.suffixes
