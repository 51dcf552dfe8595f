use Rattle.std.proofs.Common.{◌∙◌, sym}
use Rattle.evt_reader.proofs.Meanings.{plain-fault}
use Rattle.evt_reader.proofs.events.sent.Goals as goal

pub returns-in_err-value : goal.returns-in_err-value
returns-in_err-value c =
    plain-fault c.args.types.now c.args.text.now c.in_err-value.field-0.0 c.from_residual.result (sym c.is_quote.ensures ∙ c.if-is_quote.false) c.in_err-value.ensures c.from_residual.ensures.1
