use Rattle.std.proofs.Common.{◌≡◌, ◌≤◌, ◌<◌, ◌++◌, ℕ, [], length}
use Rattle.actor_theory.specs.Machine.{queue_at}
use Rattle.entry_queues.proofs.queued.gather.Given as goal

abbrev pub invariant-actors : goal.invariant-actors
invariant-actors l = record {
  moved : (k : ℕ) → k < l.actor → queue_at l.queued.items k ≡ queue_at l.initial.queued.items k ++ queue_at l.initial.outboxes.items k;
  waits : (k : ℕ) → l.actor ≤ k → queue_at l.queued.items k ≡ queue_at l.initial.queued.items k;
  emptied : (k : ℕ) → k < l.actor → queue_at l.outboxes.items k ≡ [];
  left : (k : ℕ) → l.actor ≤ k → queue_at l.outboxes.items k ≡ queue_at l.initial.outboxes.items k;
  count : length l.queued.items ≡ length l.initial.queued.items;
  boxes_count : length l.outboxes.items ≡ length l.initial.outboxes.items;
}
