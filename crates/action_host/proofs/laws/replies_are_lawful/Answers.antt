use Rattle.action_host.proofs.Replying.{reply_is_lawful}
use Rattle.action_host.proofs.laws.replies_are_lawful.Goals as goal

pub returns : goal.returns
returns c = reply_is_lawful
