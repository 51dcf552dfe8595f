use Rattle.std.proofs.Common.{◌≡◌, drop}
use Rattle.type_table.specs.Kinds.{trees}
use Rattle.type_table.specs.Gathers.{units_faults, units_gathered, none_gathered}
use Rattle.type_table.proofs.whole.units.Given as goal

abbrev pub invariant-units : goal.invariant-units
invariant-units l = let kinds = trees l.facts.kinds.now.decls.items in record {
  faults : units_faults kinds l.number l.gathered (drop l.number l.units) ≡ units_faults kinds 0 none_gathered l.units;
  after : units_gathered kinds l.number l.gathered (drop l.number l.units) ≡ units_gathered kinds 0 none_gathered l.units;
}
