use Rattle.std.proofs.Common.{◌≡◌, ◌+◌, ◌*◌, map, take}
use Rattle.value_rules.specs.Defaults.{default_by, default_event}
use Rattle.value_rules.proofs.defaults.+defaults.Given as goal

abbrev pub decreases-default_event : goal.decreases-default_event
decreases-default_event l = 3 * l.depth

abbrev pub decreases-default_within : goal.decreases-default_within
decreases-default_within l = 3 * l.depth + 1

abbrev pub decreases-default_fields : goal.decreases-default_fields
decreases-default_fields l = 3 * l.depth + 2

abbrev pub invariant-default_fields-loop-field : goal.invariant-default_fields-loop-field
invariant-default_fields-loop-field l = l.values ≡ map (λ field. default_by (default_event l.depth l.types) field.shape) (take l.field-index l.fields)
