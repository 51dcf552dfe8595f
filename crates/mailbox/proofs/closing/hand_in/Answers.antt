use Rattle.mailbox.proofs.Steps.{hands}
use Rattle.mailbox.proofs.closing.hand_in.Goals as goal

pub absorb-requires-clause-rule : goal.absorb-requires-clause-rule
absorb-requires-clause-rule g c = hands g.E.Sent.sender_of _ _ _ _ c.requires.roles.0 c.requires.roles.1 c.requires.next
