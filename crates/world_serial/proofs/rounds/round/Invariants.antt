use Rattle.std.proofs.Common.{◌≡◌}
use Rattle.actor_theory.specs.Rounding.{Rounding}
use Rattle.world_serial.specs.Fitting.{IsFitting}
use Rattle.world_serial.specs.Serial.{IsStanding, moment_of, weight, cost}
use Rattle.naive_meaning.specs.Actors.{actors_of}
use Rattle.world_serial.proofs.rounds.round.Given as goal

abbrev pub invariant-slots : goal.invariant-slots
invariant-slots l = record {
  standing : IsStanding l.program l.settings l.world;
  fitting : IsFitting l.program l.world;
  rounding : Rounding (actors_of l.program l.settings) weight (cost l.settings.contexts) l.takes (moment_of l.settings.contexts l.initial.world) (moment_of l.settings.contexts l.world) l.slot l.handled;
  waits : l.world.reader ≡ l.initial.world.reader;
}
