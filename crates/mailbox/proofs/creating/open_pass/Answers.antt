use Rattle.mailbox.proofs.Steps.{opens}
use Rattle.mailbox.proofs.creating.open_pass.Goals as goal

pub another-requires-clause-rule : goal.another-requires-clause-rule
another-requires-clause-rule g c = opens g.E.Sent.sender_of _ _ c.requires.taker
