use Rattle.std.proofs.Common.{◌≡◌, drop}
use Rattle.type_table.specs.Heads.{has_onload}
use Rattle.type_table.proofs.heads.has_onload.Given as goal

abbrev pub invariant-members : goal.invariant-members
invariant-members l = has_onload (drop l.member-index l.members) ≡ has_onload l.members
