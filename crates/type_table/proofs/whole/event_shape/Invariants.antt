use Rattle.std.proofs.Common.{◌≡◌, ◌++◌, drop}
use Rattle.std.specs.Prelude.{map}
use Rattle.type_table.specs.Names.{number_in}
use Rattle.type_table.specs.Gathers.{field_shape}
use Rattle.type_table.proofs.whole.event_shape.Given as goal

abbrev pub invariant-fields : goal.invariant-fields
invariant-fields l = l.fields ++ map (field_shape (number_in l.names)) (drop l.field-index l.event.fields) ≡ map (field_shape (number_in l.names)) l.event.fields
