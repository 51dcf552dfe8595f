use Rattle.std.proofs.Common.{◌≡◌, drop, map}
use Rattle.built_forms.specs.Rows.{joined, behind}
use Rattle.built_forms.specs.Units.{missing_in_declaration}
use Rattle.built_forms.proofs.units.next_declarations.Given as goal

abbrev pub invariant-declarations : goal.invariant-declarations
invariant-declarations l = behind l.found (joined (map missing_in_declaration (drop l.declaration-index l.declarations))) ≡ behind l.fn.before (joined (map missing_in_declaration l.declarations))
