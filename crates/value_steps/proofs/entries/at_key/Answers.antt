use Rattle.value_steps.proofs.Ascending.{at_found, at_missing}
use Rattle.value_steps.proofs.entries.at_key.Goals as goal

pub returns-in-Ok : goal.returns-in-Ok
returns-in-Ok c = at_found c.args.key.now c.args.pairs.now c.in-Ok.at c.get.result.now c.requires c.in-Ok.ensures.value c.get.ensures.item

pub returns-in-Err : goal.returns-in-Err
returns-in-Err c = at_missing c.args.key.now c.args.pairs.now _ c.requires c.in-Err.ensures.value
