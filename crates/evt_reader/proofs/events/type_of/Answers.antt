use Rattle.std.proofs.Common.{arith}
use Rattle.std.proofs.lemmas.Bool.{false≢true}
use Rattle.evt_reader.proofs.Names.{lacks-more, lacks-all}
use Rattle.evt_reader.proofs.events.type_of.Goals as goal

pub loop-at-preserved : goal.loop-at-preserved
loop-at-preserved c = λ k lt h.
    lacks-more c.args.types.now c.args.name.now c.loop-at.at k c.get.result.now c.loop-at.invariant c.get.ensures (λ e. false≢true (c.if-has_name.ensures.1 e)) lt h

pub returns : goal.returns
returns c = lacks-all c.args.types.now c.args.name.now c.loop-at.at c.loop-at.invariant (omega arith)
