use Rattle.std.proofs.Common.{◌≡◌, take}
use Rattle.term_operands.proofs.copies.copy_leaf.Given as goal

abbrev pub invariant-spans : goal.invariant-spans
invariant-spans l = l.copies ≡ take l.span-index l.leaf.spans
