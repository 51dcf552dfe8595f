use Rattle.std.proofs.Common.{◌≡◌, false}
use Rattle.actor_theory.specs.Rounding.{RoundsSoFar}
use Rattle.actor_theory.specs.Potential.{potential}
use Rattle.world_serial.specs.Fitting.{IsFitting}
use Rattle.world_serial.specs.Serial.{IsStanding, moment_of, weight, cost}
use Rattle.naive_meaning.specs.Actors.{actors_of}
use Rattle.world_serial.proofs.rounds.run_rounds.Given as goal

abbrev pub invariant-rounds : goal.invariant-rounds
invariant-rounds l = record {
  standing : IsStanding l.program l.settings l.world;
  fitting : IsFitting l.program l.world;
  so_far : RoundsSoFar (actors_of l.program l.settings) l.takes (moment_of l.settings.contexts l.initial.world) (moment_of l.settings.contexts l.world);
  waits : l.takes ≡ false → l.world.reader.cell.rest ≡ l.initial.world.reader.cell.rest;
}

abbrev pub decreases-rounds : goal.decreases-rounds
decreases-rounds l = potential (actors_of l.program l.settings) weight (cost l.settings.contexts) (moment_of l.settings.contexts l.world)
