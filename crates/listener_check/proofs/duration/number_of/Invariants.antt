use Rattle.std.proofs.Common.{◌≡◌, ◌≤◌, ◌+◌, ◌*◌, ◌^◌, drop, length}
use Rattle.listener_check.specs.Durations.{number_after}
use Rattle.listener_check.proofs.duration.number_of.Given as goal

abbrev pub invariant-loop-digit : goal.invariant-loop-digit
invariant-loop-digit l = record {
  value : number_after l.number (drop l.digit-index l.digits) ≡ number_after 0 l.digits;
  small : l.number + 23 ≤ 23 * 10 ^ l.digit-index;
  inside : l.digit-index ≤ length l.digits;
}
