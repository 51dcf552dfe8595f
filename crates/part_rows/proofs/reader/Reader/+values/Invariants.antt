use Rattle.std.specs.Prelude.{◌+◌, ◌*◌}
use Rattle.epl_values.specs.Order.{KeysAscend}
use Rattle.value_steps.specs.Orderly.{AreOrderly, AreOrderlyPairs}
use Rattle.part_rows.proofs.reader.Reader.+values.Given as goal

-- a value asks for lists of values one less deep, and each of these for values as deep
abbrev pub decreases-value : goal.decreases-value
decreases-value l = 2 * l.depth

abbrev pub decreases-values : goal.decreases-values
decreases-values l = 2 * l.depth + 1

abbrev pub decreases-pairs : goal.decreases-pairs
decreases-pairs l = 2 * l.depth + 1

abbrev pub invariant-values-items : goal.invariant-values-items
invariant-values-items l = AreOrderly l.values

abbrev pub invariant-pairs-entries : goal.invariant-pairs-entries
invariant-pairs-entries l = KeysAscend l.pairs × AreOrderlyPairs l.pairs
