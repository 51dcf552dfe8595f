use Rattle.std.proofs.Common.{◌≡◌, ◌≤◌, ◌∙◌, refl, arith}
use Rattle.world_serial.specs.Serial.{cost, moment_of, weight}
use Rattle.actor_theory.proofs.Rounding.{rounding-none}
use Rattle.naive_meaning.specs.Actors.{actors_of}
use Rattle.world_serial.proofs.RoundLemmas.{turn-more, round-over}
use Rattle.world_serial.proofs.Sending.{measure}
use Rattle.world_serial.proofs.rounds.round.Goals as goal

pub slots-init : goal.slots-init
slots-init c = record {
  standing = c.requires.standing;
  fitting = c.requires.fitting;
  rounding = rounding-none (actors_of c.args.program.now c.args.settings) weight (cost c.args.settings.contexts) c.args.takes (moment_of c.args.settings.contexts c.args.world.now);
  waits = refl;
}

pub slots-preserved : goal.slots-preserved
slots-preserved c =
    let lt = c.slots-test.true in
    let le : c.slots.slot ≤ c.args.settings.contexts = omega arith in
    let turned = c.in_ok-found.ensures.turn c.args.takes in
    record {
      standing = c.in_ok-found.ensures.standing;
      fitting = c.in_ok-found.ensures.fits;
      rounding = turn-more c.args.program.now c.args.settings (measure c.args.program.now c.args.settings) c.args.takes (moment_of c.args.settings.contexts c.args.world.now) c.slots.world c.slot_turn.new.world c.slots.slot c.slots.handled c.in_ok-found.found _ c.slots.invariant.rounding le turned refl;
      waits = c.in_ok-found.ensures.waits ∙ c.slots.invariant.waits;
    }

pub returns : goal.returns
returns c =
    let end : c.slots.slot ≡ c.args.settings.contexts = omega arith in
    round-over c.args.program.now c.args.settings (measure c.args.program.now c.args.settings) c.args.takes c.args.world.now c.slots.world c.reader_turn.new.world c.slots.slot c.slots.handled c.in_ok-found-2.found _ c.slots.invariant.rounding end c.slots.invariant.waits
    c.in_ok-found-2.ensures.turn c.in_ok-found-2.ensures.waits refl c.in_ok-found-2.ensures.standing c.in_ok-found-2.ensures.fits
