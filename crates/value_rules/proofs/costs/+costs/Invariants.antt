use Rattle.std.proofs.Common.{◌≡◌, ◌+◌, ◌-◌, ◌^◌, min, sum_by, take}
use Rattle.value_rules.specs.Costs.{cost_of, pair_cost}
use Rattle.value_rules.proofs.costs.+costs.Given as goal

abbrev pub invariant-cost_with-loop-part : goal.invariant-cost_with-loop-part
invariant-cost_with-loop-part l = l.total ≡ min (2 ^ 64 - 1) (1 + sum_by cost_of (take l.part-index l.parts))

abbrev pub invariant-cost_with_items-loop-at : goal.invariant-cost_with_items-loop-at
invariant-cost_with_items-loop-at l = l.total ≡ min (2 ^ 64 - 1) (1 + sum_by cost_of (take l.at l.items))

abbrev pub invariant-cost_with_pairs-loop-at : goal.invariant-cost_with_pairs-loop-at
invariant-cost_with_pairs-loop-at l = l.total ≡ min (2 ^ 64 - 1) (1 + sum_by pair_cost (take l.at l.pairs))
