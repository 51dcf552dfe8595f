use Rattle.std.proofs.Common.{◌≡◌, ◌++◌, drop}
use Rattle.type_table.specs.Names.{number_in}
use Rattle.type_table.specs.Heads.{globals_in}
use Rattle.type_table.proofs.heads.globals_in.Given as goal

abbrev pub invariant-members : goal.invariant-members
invariant-members l = l.heads ++ globals_in (number_in l.names) (drop l.member-index l.members) ≡ globals_in (number_in l.names) l.members
