use Rattle.std.proofs.Common.{◌≡◌, drop}
use Rattle.term_meaning.specs.Operands.{event_of}
use Rattle.term_operands.proofs.operands.event_of.Given as goal

abbrev pub invariant-bindings : goal.invariant-bindings
invariant-bindings l = event_of l.name l.seen ≡ event_of l.name (drop l.binding-index l.seen)
