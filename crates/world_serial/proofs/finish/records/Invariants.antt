use Rattle.std.proofs.Common.{◌≡◌, ◌≤◌, ◌++◌, length, drop}
use Rattle.world_serial.specs.Queued.{records_of}
use Rattle.world_serial.proofs.finish.records.Given as goal

abbrev pub invariant-cells : goal.invariant-cells
invariant-cells l = record {
  made : l.records ++ records_of l.contexts l.cells l.queued ≡ records_of l.contexts l.initial.cells l.initial.queued;
  rest : drop (length l.cells) l.queued ≡ drop (length l.initial.cells) l.initial.queued;
  enough : length l.cells ≤ length l.queued;
}

abbrev pub decreases-cells : goal.decreases-cells
decreases-cells l = length l.cells
