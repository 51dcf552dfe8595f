use Rattle.std.proofs.Common.{◌≡◌, take}
use Rattle.std.specs.Prelude.{min}
use Rattle.std.specs.List.{sum_by}
use Rattle.type_table.specs.Names.{number_in}
use Rattle.type_table.specs.Chains.{at_number, field_count}
use Rattle.type_table.proofs.widths.total.Given as goal

abbrev pub invariant-fields : goal.invariant-fields
invariant-fields l = l.total ≡ min 257 (sum_by (λ f. field_count (λ n. at_number 0 l.table (number_in l.kinds.names n)) f.shape) (take l.field-index l.event.fields))
