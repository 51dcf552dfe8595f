use Rattle.action_host.proofs.Targets.{targets_counted}
use Rattle.action_host.proofs.laws.targets_are_counted.Goals as goal

pub returns : goal.returns
returns c = targets_counted
