use Rattle.std.proofs.Common.{◌≡◌}
use Rattle.actor_theory.specs.Machine.{empty_queues}
use Rattle.entry_queues.proofs.queued.empty_queues.Given as goal

abbrev pub invariant-actors : goal.invariant-actors
invariant-actors l = l.queues.items ≡ empty_queues l._actor
