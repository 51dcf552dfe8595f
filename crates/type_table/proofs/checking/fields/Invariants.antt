use Rattle.std.proofs.Common.{◌≡◌, [], drop, take}
use Rattle.std.specs.Prelude.{min}
use Rattle.type_table.specs.Kinds.{trees}
use Rattle.type_table.specs.Gathers.{count_of, fields_faults}
use Rattle.type_table.proofs.checking.fields.Given as goal

abbrev pub invariant-fields : goal.invariant-fields
invariant-fields l = let kinds = trees l.facts.kinds.now.decls.items in record {
  faults : fields_faults kinds (take l.place l.fields) (drop l.place l.fields) ≡ fields_faults kinds [] l.fields;
  count : l.count ≡ min 257 (count_of kinds (take l.place l.fields));
}
