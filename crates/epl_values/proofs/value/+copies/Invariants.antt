use Rattle.std.proofs.Common.{◌≡◌, take}
use Rattle.epl_values.proofs.value.+copies.Given as goal

abbrev pub invariant-copy_values-loop-value : goal.invariant-copy_values-loop-value
invariant-copy_values-loop-value l = l.copies ≡ take l.value-index l.values

abbrev pub invariant-copy_items-loop-at : goal.invariant-copy_items-loop-at
invariant-copy_items-loop-at l = l.copies ≡ take l.at l.items

abbrev pub invariant-copy_pairs-loop-at : goal.invariant-copy_pairs-loop-at
invariant-copy_pairs-loop-at l = l.copies ≡ take l.at l.pairs
