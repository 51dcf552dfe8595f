use Rattle.std.proofs.Common.{length}
use Rattle.evt_reader.proofs.Lined.{IsRead}
use Rattle.evt_reader.proofs.reading.items.Given as goal

abbrev pub invariant-lines : goal.invariant-lines
invariant-lines l = IsRead l.program.types l.bytes l.lines.rest.now l.number l.given.last l.given.items

abbrev pub decreases-lines : goal.decreases-lines
decreases-lines l = length l.lines.rest.now
