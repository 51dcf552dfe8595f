use Rattle.std.proofs.Common.{◌∙◌}
use Rattle.world_serial.proofs.RoundLemmas.{round-more, rounds-over}
use Rattle.world_serial.proofs.rounds.run_rounds.Goals as goal

pub returns-then-not-branch : goal.returns-then-not-branch
returns-then-not-branch c =
    rounds-over c.args.program.now c.args.settings c.args.takes c.args.world.now c.rounds.world c.round.new.world c.in_ok-round.field-0 c.rounds.invariant.so_far c.rounds.invariant.waits c.in_ok-round.ensures c.if-not-branch.true

pub rounds-preserved : goal.rounds-preserved
rounds-preserved c = record {
  standing = c.in_ok-round.ensures.standing;
  fitting = c.in_ok-round.ensures.fitting;
  so_far = round-more c.args.program.now c.args.settings c.args.takes c.args.world.now c.rounds.world c.round.new.world c.in_ok-round.field-0 c.rounds.invariant.so_far c.in_ok-round.ensures;
  waits = λ no_items. c.in_ok-round.ensures.waits no_items ∙ c.rounds.invariant.waits no_items;
}
