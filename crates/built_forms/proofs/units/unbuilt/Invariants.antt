use Rattle.std.proofs.Common.{◌≡◌, drop}
use Rattle.built_forms.specs.Rows.{first_of}
use Rattle.built_forms.specs.Units.{missing_from}
use Rattle.built_forms.proofs.units.unbuilt.Given as goal

abbrev pub invariant-units : goal.invariant-units
invariant-units l = first_of (missing_from l.place (drop l.place l.units)) ≡ first_of (missing_from 0 l.units)
