use Rattle.instance_store.proofs.Counted.{are_counted}
use Rattle.instance_store.proofs.laws.channels_are_counted.Goals as goal

pub returns : goal.returns
returns c = are_counted
