use Rattle.std.proofs.Common.{arith, sym, ◌∙◌}
use Rattle.std.proofs.lemmas.Bool.Decides.{nat_tests}
use Rattle.live_context.specs.Order.{birth_of}
use Rattle.live_context.proofs.Places.{born_there, there_none, there_other}
use Rattle.live_context.proofs.listeners.birth_place.Goals as goal

pub returns-in-None : goal.returns-in-None
returns-in-None c = sym (there_none birth_of c.args.birth c.args.listeners.now c.count_born-at.result c.requires c.count_born-at.ensures c.in-None.ensures)

pub returns-then-birth : goal.returns-then-birth
returns-then-birth c = born_there c.args.birth c.args.listeners.now c.count_born-at.result c.in-Some.listener.now c.requires c.count_born-at.ensures c.in-Some.ensures (sym c.birth.ensures ∙ c.if-birth.true)

pub returns-else-birth : goal.returns-else-birth
returns-else-birth c = sym (there_other birth_of c.args.birth c.args.listeners.now c.count_born-at.result c.in-Some.listener.now c.requires c.count_born-at.ensures c.in-Some.ensures (grind (arith, nat_tests)))
