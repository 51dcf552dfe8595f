use Rattle.listener_check.specs.Templates.{clause_read}
use Rattle.listener_check.proofs.Going.{on-part}
use Rattle.listener_check.proofs.reader.Reader.clause.Goals as goal

pub returns-in_ok-place-in-As : goal.returns-in_ok-place-in-As
unfolding clause_read
returns-in_ok-place-in-As c = rw c.in-As.is (on-part _ _ _ _ c.in_ok-place-in-As.ensures)

pub returns-in_ok-timed-in-Within : goal.returns-in_ok-timed-in-Within
unfolding clause_read
returns-in_ok-timed-in-Within c = rw c.in-Within.is (on-part _ _ _ _ c.in_ok-timed-in-Within.ensures)
