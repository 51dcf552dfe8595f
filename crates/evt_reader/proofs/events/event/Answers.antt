use Rattle.std.proofs.Common.{◌∙◌, ap, sym}
use Rattle.std.proofs.lemmas.List.{take_rest}
use Rattle.evt_reader.specs.Steps.{are_blanks}
use Rattle.evt_reader.proofs.Meanings.{event-found, event-not_blank, event-no_type, finds-fault}
use Rattle.evt_reader.proofs.events.event.Goals as goal

pub returns-in_default : goal.returns-in_default
returns-in_default c = event-no_type c.args.types.now c.requires c.args.text.now c.in_default.ensures

pub returns-in_err-value : goal.returns-in_err-value
returns-in_err-value c =
    finds-fault c.args.types.now c.requires c.args.text.now c.in-Some.number c.in_err-value.field-0.0 c.from_residual.result c.in-Some.ensures c.in_err-value.ensures c.from_residual.ensures.1

pub returns-then-not-are_blanks : goal.returns-then-not-are_blanks
returns-then-not-are_blanks c =
    event-not_blank c.args.types.now c.requires c.args.text.now c.in-Some.number c.in_ok-value.value c.in_ok-value.end c.in_ok-value.ensures.0
    (sym (ap are_blanks (take_rest c.args.text.now c.in_ok-value.end)) ∙ sym (rw c.as_bytes.ensures.value at c.are_blanks.ensures) ∙ c.if-not-are_blanks.true)

pub returns : goal.returns
returns c =
    event-found c.args.types.now c.args.text.now c.in-Some.number c.in_ok-value.value c.in_ok-value.end c.in_ok-value.ensures.0
    (sym (ap are_blanks (take_rest c.args.text.now c.in_ok-value.end)) ∙ sym (rw c.as_bytes.ensures.value at c.are_blanks.ensures) ∙ c.if-not-are_blanks.false)
