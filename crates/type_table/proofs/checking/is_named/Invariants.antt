use Rattle.std.proofs.Common.{◌≡◌, drop}
use Rattle.type_table.specs.Gathers.{is_named}
use Rattle.type_table.proofs.checking.is_named.Given as goal

abbrev pub invariant-fields : goal.invariant-fields
invariant-fields l = is_named l.name (drop l.field-index l.fields) ≡ is_named l.name l.fields
