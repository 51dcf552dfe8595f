use Rattle.mailbox.proofs.Steps.{posting}
use Rattle.mailbox.proofs.mailbox.Mailbox.post.Goals as goal

pub push_as-posted-requires-clause-rule : goal.push_as-posted-requires-clause-rule
push_as-posted-requires-clause-rule g c = posting g.E.Sent.sender_of _ _ _ _ c.requires.pass.1 c.requires.sender
