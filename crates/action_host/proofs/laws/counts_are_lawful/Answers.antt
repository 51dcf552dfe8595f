use Rattle.action_host.proofs.Counting.{counts_lawful}
use Rattle.action_host.proofs.laws.counts_are_lawful.Goals as goal

pub returns : goal.returns
returns c = counts_lawful
