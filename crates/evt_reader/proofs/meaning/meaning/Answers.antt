use Rattle.std.proofs.Common.{◌∙◌, sym}
use Rattle.evt_reader.proofs.Meanings.{nothing-line, sent-line, time-line, fault-line}
use Rattle.evt_reader.proofs.meaning.meaning.Goals as goal

pub returns-then-is_nothing : goal.returns-then-is_nothing
returns-then-is_nothing c =
    nothing-line c.args.types.now c.args.last.now c.args.line.now c.in-Ok.text.now c.behind_blanks-rest.result.now c.in-Ok.ensures.cases.1 c.in-Ok.ensures.cases.0 c.behind_blanks-rest.ensures
    (sym c.is_nothing.ensures ∙ c.if-is_nothing.true)

pub returns-in-Some : goal.returns-in-Some
returns-in-Some c =
    time-line c.args.types.now c.requires.names c.args.last.now c.args.line.now c.in-Ok.text.now c.behind_blanks-rest.result.now c.in-Some.time c.time_said.result c.in-Ok.ensures.cases.1
    c.in-Ok.ensures.cases.0 c.behind_blanks-rest.ensures (sym c.is_nothing.ensures ∙ c.if-is_nothing.false) (sym c.in-Some.ensures) c.time_said.ensures

pub returns-in_err-channel : goal.returns-in_err-channel
returns-in_err-channel c =
    fault-line c.args.types.now c.requires c.args.last.now c.args.line.now c.in-Ok.text.now c.behind_blanks-rest.result.now c.in_err-channel.field-0.0 c.from_residual.result c.in-Ok.ensures.cases.0
    c.behind_blanks-rest.ensures (sym c.is_nothing.ensures ∙ c.if-is_nothing.false) (sym c.in_default-timed.ensures) c.in_err-channel.ensures c.from_residual.ensures.1

pub returns : goal.returns
returns c =
    sent-line c.args.types.now c.args.last.now c.args.line.now c.in-Ok.text.now c.behind_blanks-rest.result.now c.in_ok-channel.channel c.in_ok-channel.value c.in-Ok.ensures.cases.1 c.in-Ok.ensures.cases.0
    c.behind_blanks-rest.ensures c.in_ok-channel.ensures
