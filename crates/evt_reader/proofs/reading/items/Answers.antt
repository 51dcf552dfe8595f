use Rattle.evt_reader.proofs.Fitting.{gives_fit}
use Rattle.evt_reader.proofs.Lined.{reads-nothing, reads-line, gives-items, gives-fault}
use Rattle.evt_reader.proofs.reading.items.Goals as goal

pub lines-init : goal.lines-init
lines-init c = rw (c.nothing_given-given.ensures.items, c.nothing_given-given.ensures.last) (reads-nothing c.args.program.now.types c.args.bytes.now c.without_mark.result.now c.without_mark.ensures)

pub lines-preserved : goal.lines-preserved
lines-preserved c =
    reads-line c.args.program.now.types c.args.bytes.now c.lines.lines.rest.now c.next.new.self.rest.now c.in-Some.line.now c.lines.number c.lines.given.last c.take_line.new.given.last c.lines.given.items c.take_line.new.given.items c.lines.invariant
    c.in-Some.ensures c.in_ok-take_line.ensures

pub returns-in_err-take_line-clause-gives : goal.returns-in_err-take_line-clause-gives
returns-in_err-take_line-clause-gives c =
    gives-fault c.args.program.now.types c.args.bytes.now c.lines.lines.rest.now c.next.new.self.rest.now c.in-Some.line.now c.lines.number c.lines.given.last c.take_line.new.given.last c.lines.given.items c.take_line.new.given.items
    c.in_err-take_line.field-0.0 c.from_residual.result c.requires.types c.lines.invariant c.in-Some.ensures c.in_err-take_line.ensures c.from_residual.ensures.1

pub returns-clause-gives : goal.returns-clause-gives
returns-clause-gives c =
    gives-items c.args.program.now.types c.args.bytes.now c.lines.lines.rest.now c.next.new.self.rest.now c.lines.number c.lines.given.last c.lines.given.items c.requires.types c.lines.invariant c.in_default.ensures

pub returns-clause-fits : goal.returns-clause-fits
returns-clause-fits c = gives_fit c.args.program.now c.args.bytes.now c.lines.given.items (gives-items c.args.program.now.types c.args.bytes.now c.lines.lines.rest.now c.next.new.self.rest.now c.lines.number c.lines.given.last c.lines.given.items c.requires.types c.lines.invariant c.in_default.ensures)
