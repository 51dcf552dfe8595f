use Rattle.std.proofs.Common.{length}
use Rattle.schedule_picks.proofs.Lined.{IsRead}
use Rattle.schedule_picks.proofs.reading.picks.Given as goal

abbrev pub invariant-lines : goal.invariant-lines
invariant-lines l = IsRead l.contexts l.bytes l.lines.rest.now l.number l.given

abbrev pub decreases-lines : goal.decreases-lines
decreases-lines l = length l.lines.rest.now
