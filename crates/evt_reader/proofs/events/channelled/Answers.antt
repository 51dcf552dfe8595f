use Rattle.evt_reader.proofs.Meanings.{channel-fault, event-fault, sent-found}
use Rattle.evt_reader.proofs.events.channelled.Goals as goal

pub returns-in_err-channel : goal.returns-in_err-channel
returns-in_err-channel c =
    channel-fault c.args.types.now c.requires.types.names c.args.text.now c.channel.new.scanner.rest.now c.in_err-channel.field-0.0 c.from_residual.result c.requires.quote c.in_err-channel.ensures c.from_residual.ensures.1

pub returns-in_err-value : goal.returns-in_err-value
returns-in_err-value c =
    event-fault c.args.types.now c.requires.types.names c.args.text.now c.in_ok-channel.channel c.channel.new.scanner.rest.now c.in_err-value.field-0.0 c.from_residual-in_err-value.result c.requires.quote
    c.in_ok-channel.ensures c.in_err-value.ensures c.from_residual-in_err-value.ensures.1

pub returns : goal.returns
returns c = sent-found c.args.types.now c.args.text.now c.in_ok-channel.channel c.channel.new.scanner.rest.now c.in_ok-value.value c.in_ok-channel.ensures c.in_ok-value.ensures
