use Rattle.std.proofs.Common.{◌≡◌, ◌++◌, ◌+◌, ◌≤◌, drop, length}
use Rattle.type_table.specs.Names.{number_in}
use Rattle.type_table.specs.Heads.{actions_from}
use Rattle.type_table.proofs.heads.actions_from.Given as goal

abbrev pub invariant-members : goal.invariant-members
invariant-members l = record {
  heads : l.heads ++ actions_from (number_in l.names) (l.first + length l.heads) (drop l.member-index l.members) ≡ actions_from (number_in l.names) l.first l.members;
  few : length l.heads ≤ l.member-index;
}
