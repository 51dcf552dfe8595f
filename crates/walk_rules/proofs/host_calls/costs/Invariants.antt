use Rattle.std.proofs.Common.{◌≡◌, ◌-◌, ◌^◌, min, sum_by, take}
use Rattle.value_rules.specs.Costs.{cost_of}
use Rattle.walk_rules.proofs.host_calls.costs.Given as goal

abbrev pub invariant-loop-value : goal.invariant-loop-value
invariant-loop-value l = l.total ≡ min (2 ^ 64 - 1) (sum_by cost_of (take l.value-index l.values))
