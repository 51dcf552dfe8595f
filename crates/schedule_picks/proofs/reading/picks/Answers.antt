use Rattle.schedule_picks.proofs.Lined.{reads_nothing, reads_line, gives_picks, gives_fault}
use Rattle.schedule_picks.proofs.reading.picks.Goals as goal

pub lines-init : goal.lines-init
lines-init c = rw c.new-given.ensures (reads_nothing c.args.contexts c.args.bytes.now c.without_mark.result.now c.without_mark.ensures.mark c.without_mark.ensures.within)

pub lines-preserved : goal.lines-preserved
lines-preserved c =
    reads_line c.args.contexts c.args.bytes.now c.lines.lines.rest.now c.next.new.self.rest.now c.in-Some.line.now c.lines.number c.lines.given c.take_line.new.given c.lines.invariant
    c.in-Some.ensures c.in_ok-take_line.ensures

pub returns-in_err-take_line : goal.returns-in_err-take_line
returns-in_err-take_line c =
    gives_fault c.args.contexts c.args.bytes.now c.lines.lines.rest.now c.next.new.self.rest.now c.in-Some.line.now c.lines.number c.lines.given c.take_line.new.given
    c.in_err-take_line.field-0.0 c.from_residual.result c.lines.invariant c.in-Some.ensures c.in_err-take_line.ensures c.from_residual.ensures.1

pub returns : goal.returns
returns c = gives_picks c.args.contexts c.args.bytes.now c.lines.lines.rest.now c.next.new.self.rest.now c.lines.number c.lines.given c.lines.invariant c.in_default.ensures
