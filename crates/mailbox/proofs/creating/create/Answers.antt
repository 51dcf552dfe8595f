use Rattle.mailbox.proofs.Steps.{begins}
use Rattle.mailbox.proofs.creating.create.Goals as goal

pub ruled-requires-clause-rule : goal.ruled-requires-clause-rule
ruled-requires-clause-rule g c = begins g.E.Sent.sender_of
