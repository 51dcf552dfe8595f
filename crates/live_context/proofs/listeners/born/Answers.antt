use Rattle.std.proofs.Common.{arith, sym, ◌∙◌}
use Rattle.std.proofs.lemmas.Bool.Decides.{nat_tests}
use Rattle.live_context.specs.Order.{birth_of}
use Rattle.live_context.proofs.Places.{there_none, there_other, there_same}
use Rattle.live_context.proofs.listeners.born.Goals as goal

pub returns-in-None : goal.returns-in-None
returns-in-None c = there_none birth_of c.args.birth c.args.listeners.now c.count_born.result c.requires c.count_born.ensures c.in-None.ensures

pub returns-then-birth : goal.returns-then-birth
returns-then-birth c = there_same birth_of c.args.birth c.args.listeners.now c.count_born.result c.in-Some.listener.now c.requires c.count_born.ensures c.in-Some.ensures (sym c.birth.ensures ∙ c.if-birth.true)

pub returns-else-birth : goal.returns-else-birth
returns-else-birth c = there_other birth_of c.args.birth c.args.listeners.now c.count_born.result c.in-Some.listener.now c.requires c.count_born.ensures c.in-Some.ensures (grind (arith, nat_tests))
