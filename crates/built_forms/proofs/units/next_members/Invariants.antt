use Rattle.std.proofs.Common.{◌≡◌, drop, map}
use Rattle.built_forms.specs.Rows.{joined, behind}
use Rattle.built_forms.specs.Units.{missing_in_member}
use Rattle.built_forms.proofs.units.next_members.Given as goal

abbrev pub invariant-members : goal.invariant-members
invariant-members l = behind l.found (joined (map missing_in_member (drop l.member-index l.members))) ≡ behind l.fn.before (joined (map missing_in_member l.members))
