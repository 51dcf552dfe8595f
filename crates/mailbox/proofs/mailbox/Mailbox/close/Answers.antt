use Rattle.mailbox.specs.Passes.{taker_view}
use Rattle.mailbox.proofs.Leaving.{delivered}
use Rattle.mailbox.proofs.mailbox.Mailbox.close.Goals as goal

pub returns : goal.returns
returns g c = delivered g.E.Sent.sender_of (taker_view c.args.taker) _ c.args.passes c.drain.result c.hand_all_in.ensures.view c.drain.ensures
