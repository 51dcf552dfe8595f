use Rattle.std.proofs.Common.{◌≤◌}
use Rattle.std.specs.List.{position_or_len}
use Rattle.epl_values.specs.Order.{order_of}
use Rattle.body_meaning.specs.Values.{is_equal}
use Rattle.value_steps.proofs.collections.place_among.Given as goal

abbrev pub invariant-loop-at : goal.invariant-loop-at
invariant-loop-at l = l.at ≤ position_or_len (λ value. is_equal (order_of value l.wanted)) l.items
