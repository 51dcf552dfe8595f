use Rattle.stmt_check.proofs.Going.{goes_err}
use Rattle.stmt_check.proofs.Members.{members_step, members_stop, members_end}
use Rattle.stmt_check.proofs.action.Reader.members.Goals as goal

pub members-preserved : goal.members-preserved
members-preserved c = members_step c.args.self.now.table.now c.args.self.now.members.now c.members.at c.members-test.true c.member-item.is c.members.invariant c.in_ok-member.ensures

pub returns-in_err-member : goal.returns-in_err-member
returns-in_err-member c = goes_err _ c.from_residual.ensures.1 (members_stop c.args.self.now.table.now c.args.self.now.members.now c.members.at _ c.members-test.true c.member-item.is c.members.invariant c.in_err-member.ensures)

pub returns : goal.returns
returns c = members_end c.args.self.now.table.now c.args.self.now.members.now c.members.at c.members-test.false c.members.invariant
