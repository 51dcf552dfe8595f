use Rattle.std.proofs.Common.{ap, refl, sym, ◌∙◌}
use Rattle.source_actor.specs.Steps.{is_named}
use Rattle.source_actor.proofs.Sends.{event-kept, event-sent}
use Rattle.source_actor.proofs.reader.send_event.Goals as goal

pub returns-then-is_named : goal.returns-then-is_named
returns-then-is_named c = event-kept c.args.contexts c.args.number c.args.channel.now c.args.event.now c.args.outboxes.now.items _ (ap is_named (sym c.as_str.ensures) ∙ sym c.is_named.ensures ∙ c.if-is_named.true) refl

pub returns : goal.returns
returns c =
    event-sent c.args.contexts c.args.number c.args.channel.now c.args.event.now c.in_ok-entry.entry c.args.outboxes.now.items c.send_to.new.outboxes.items (ap is_named (sym c.as_str.ensures) ∙ sym c.is_named.ensures ∙ c.if-is_named.false) c.requires.some
    c.requires.count c.in_ok-entry.ensures c.in_ok-send_to.ensures
