use Rattle.std.proofs.Common.{◌≡◌, drop, take, []}
use Rattle.stmt_check.specs.Members.{members_read}
use Rattle.stmt_check.proofs.action.Reader.members.Given as goal

abbrev pub invariant-members : goal.invariant-members
invariant-members l = members_read l.self.table.now l.self.members.now (take l.at l.self.members.now) (drop l.at l.self.members.now) l.made ≡ members_read l.self.table.now l.self.members.now [] l.self.members.now l.fn.made
