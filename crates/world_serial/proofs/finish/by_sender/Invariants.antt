use Rattle.std.proofs.Common.{◌≡◌, ◌≤◌, ℕ}
use Rattle.actor_theory.specs.Language.{by}
use Rattle.actor_theory.specs.Order.{ordered}
use Rattle.world_serial.proofs.finish.by_sender.Given as goal

abbrev pub invariant-senders : goal.invariant-senders
invariant-senders l = record {
  taken : l.left ≡ ordered l.sender l.initial.waiting;
  waits : (s : ℕ) → l.sender ≤ s → by s l.waiting ≡ by s l.initial.waiting;
}
