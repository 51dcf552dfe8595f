use Rattle.std.proofs.Common.{◌≡◌}
use Rattle.part_rows.proofs.reader.as_elements.Given as goal

abbrev pub invariant-loop-value : goal.invariant-loop-value
invariant-loop-value l = l.items ≡ l.yielded
