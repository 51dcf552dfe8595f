use Rattle.mailbox.proofs.Steps.{taking}
use Rattle.mailbox.proofs.mailbox.Mailbox.take.Goals as goal

pub pop_as-taken-requires-clause-rule : goal.pop_as-taken-requires-clause-rule
pop_as-taken-requires-clause-rule g c = taking g.E.Sent.sender_of _ _ c.requires.pass.1
