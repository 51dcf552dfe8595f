use Rattle.std.proofs.Common.{◌≡◌, map, take}
use Rattle.body_meaning.specs.Effects.{emptied}
use Rattle.value_steps.specs.Emptied.{emptied_entry}
use Rattle.value_steps.proofs.spawning.+emptied.Given as goal

abbrev pub invariant-emptied_values-loop-value : goal.invariant-emptied_values-loop-value
invariant-emptied_values-loop-value l = l.copies ≡ map emptied (take l.value-index l.values)

abbrev pub invariant-emptied_items-loop-at : goal.invariant-emptied_items-loop-at
invariant-emptied_items-loop-at l = l.copies ≡ map emptied (take l.at l.items)

abbrev pub invariant-emptied_pairs-loop-at : goal.invariant-emptied_pairs-loop-at
invariant-emptied_pairs-loop-at l = l.copies ≡ map emptied_entry (take l.at l.pairs)
