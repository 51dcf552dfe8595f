use Rattle.std.proofs.Common.{◌≡◌, drop, map, slice_get}
use Rattle.std.specs.List.{list_all}
use Rattle.value_rules.specs.Shapes.{all_fit, event_fits, has, pair_has}
use Rattle.value_rules.proofs.shapes.+shapes.Given as goal

abbrev pub invariant-all_have-loop-at : goal.invariant-all_have-loop-at
invariant-all_have-loop-at l =
    list_all (λ part. part l.element) (map (has l.types) (drop l.at l.items)) ≡ list_all (λ part. part l.fn.element) (map (has l.fn.types) l.fn.items)

abbrev pub invariant-pairs_have-loop-at : goal.invariant-pairs_have-loop-at
invariant-pairs_have-loop-at l =
    list_all (λ pair. pair l.key l.item) (map (pair_has l.types) (drop l.at l.pairs)) ≡ list_all (λ pair. pair l.fn.key l.fn.item) (map (pair_has l.fn.types) l.fn.pairs)

abbrev pub invariant-fields_have-loop-value : goal.invariant-fields_have-loop-value
invariant-fields_have-loop-value l =
    all_fit (map (has l.types) (drop l.value-index l.value-items)) (map (λ field. field.shape) l.rest) ≡ event_fits (map (has l.fn.types) l.fn.fields) (slice_get l.fn.types l.fn.number)
