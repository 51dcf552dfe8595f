use Rattle.listener_check.specs.Terms.{ended_read}
use Rattle.listener_check.proofs.Going.{on-part}
use Rattle.listener_check.proofs.reader.Reader.ended.Goals as goal

pub returns-in_ok-timed-in-Some : goal.returns-in_ok-timed-in-Some
unfolding ended_read
returns-in_ok-timed-in-Some c = rw c.in-Some.is (on-part _ _ _ _ c.in_ok-timed-in-Some.ensures)
