use Rattle.std.proofs.Common.{◌≡◌, ◌++◌, take}
use Rattle.term_operands.proofs.copies.extend.Given as goal

abbrev pub invariant-bindings : goal.invariant-bindings
invariant-bindings l = l.all ≡ l.fn.front ++ take l.binding-index l.more
