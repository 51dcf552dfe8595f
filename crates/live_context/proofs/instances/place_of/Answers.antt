use Rattle.std.proofs.Common.{arith, sym}
use Rattle.std.proofs.lemmas.Bool.Decides.{nat_tests}
use Rattle.live_context.proofs.Places.{found_none, found_other, found_there}
use Rattle.live_context.proofs.instances.place_of.Goals as goal

pub returns-in-None : goal.returns-in-None
returns-in-None c = sym (found_none c.args.number c.args.instances.now c.count_numbered-at.result c.requires c.count_numbered-at.ensures c.in-None.ensures)

pub returns-then-live-number : goal.returns-then-live-number
returns-then-live-number c = found_there c.args.number c.args.instances.now c.count_numbered-at.result c.in-Some.live.now c.requires c.count_numbered-at.ensures c.in-Some.ensures c.if-live-number.true

pub returns-else-live-number : goal.returns-else-live-number
returns-else-live-number c = sym (found_other c.args.number c.args.instances.now c.count_numbered-at.result c.in-Some.live.now c.requires c.count_numbered-at.ensures c.in-Some.ensures (grind (arith, nat_tests)))
