use Rattle.std.proofs.Common.{◌≡◌, ◌++◌, length}
use Rattle.actor_theory.specs.Language.{by}
use Rattle.world_serial.specs.Queued.{but}
use Rattle.world_serial.proofs.finish.take_sender.Given as goal

abbrev pub invariant-entries : goal.invariant-entries
invariant-entries l = record {
  moved : l.left ++ by l.sender l.waiting ≡ l.initial.left ++ by l.sender l.initial.waiting;
  kept : l.others ++ but l.sender l.waiting ≡ but l.sender l.initial.waiting;
}

abbrev pub decreases-entries : goal.decreases-entries
decreases-entries l = length l.waiting
